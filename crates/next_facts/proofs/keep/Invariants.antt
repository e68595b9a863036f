use Rattle.next_facts.proofs.KeepLaws.{Keeping}
use Rattle.next_facts.proofs.keep.Given as goal

abbrev pub invariant-loop-i : goal.invariant-loop-i
invariant-loop-i l = Keeping l.facts l.initial.out l.out l.p l.k l.count l.m l.i
