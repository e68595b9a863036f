use Rattle.matcher.proofs.OrderLaws.{Choosing}
use Rattle.matcher.proofs.best.Given as goal

abbrev pub invariant-loop-i : goal.invariant-loop-i
invariant-loop-i l = Choosing l.ord l.seen l.k l.i l.at l.low
