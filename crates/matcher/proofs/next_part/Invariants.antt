use Rattle.matcher.proofs.OrderLaws.{Parting}
use Rattle.matcher.proofs.next_part.Given as goal

abbrev pub invariant-loop-e : goal.invariant-loop-e
invariant-loop-e l = Parting l.initial.ord l.k l.ord l.seen l.e
