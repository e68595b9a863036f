use Rattle.paths.specs.Inner.{Counted}
use Rattle.paths.proofs.count_paths.Given as goal

abbrev pub invariant-loop-i : goal.invariant-loop-i
invariant-loop-i l = Counted l.words l.counts l.i
