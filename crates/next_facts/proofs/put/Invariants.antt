use Rattle.next_facts.proofs.PutLaws.{Putting}
use Rattle.next_facts.proofs.put.Given as goal

abbrev pub invariant-loop-i : goal.invariant-loop-i
invariant-loop-i l = Putting l.words l.initial.out l.out l.at l.p l.k l.count l.i
