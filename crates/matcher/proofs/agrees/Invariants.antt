use Rattle.matcher.specs.Failure.{Same}
use Rattle.matcher.proofs.agrees.Given as goal

abbrev pub invariant-loop-i : goal.invariant-loop-i
invariant-loop-i l = Same l.theta l.store l.at l.mask l.i
