use Rattle.matcher.specs.Failure.{Variables}
use Rattle.matcher.proofs.variables_of.Given as goal

abbrev pub invariant-loop-k : goal.invariant-loop-k
invariant-loop-k l = Variables l.l l.k l.mask
