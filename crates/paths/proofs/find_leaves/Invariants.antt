use Rattle.paths.specs.Inner.{Leaves}
use Rattle.paths.proofs.find_leaves.Given as goal

abbrev pub invariant-loop-p : goal.invariant-loop-p
invariant-loop-p l = Leaves l.words l.leaves l.n l.p
