use Rattle.next_facts.proofs.KeepLaws.{Ordering}
use Rattle.next_facts.proofs.are_ordered.Given as goal

abbrev pub invariant-loop-i : goal.invariant-loop-i
invariant-loop-i l = Ordering l.arities l.facts l.i
