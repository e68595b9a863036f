use Rattle.next_facts.proofs.CallLaws.{Passing}
use Rattle.next_facts.proofs.fill_all.Given as goal

abbrev pub invariant-loop-q : goal.invariant-loop-q
invariant-loop-q l = Passing l.arities l.listings l.spans l.facts l.constants l.objects l.initial.marks l.marks l.initial.out l.out l.n l.count l.q
