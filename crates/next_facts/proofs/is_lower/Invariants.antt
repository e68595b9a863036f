use Rattle.next_facts.proofs.KeepLaws.{Lowering}
use Rattle.next_facts.proofs.is_lower.Given as goal

abbrev pub invariant-loop-j : goal.invariant-loop-j
invariant-loop-j l = Lowering l.facts l.a l.b l.k l.j
