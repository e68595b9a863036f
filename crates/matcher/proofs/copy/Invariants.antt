use Rattle.matcher.specs.Failure.{Copied}
use Rattle.matcher.proofs.copy.Given as goal

abbrev pub invariant-loop-i : goal.invariant-loop-i
invariant-loop-i l = Copied l.theta l.initial.store l.store l.at l.i
