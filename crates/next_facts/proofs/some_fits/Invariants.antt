use Rattle.next_facts.proofs.RowLaws.{Seeking}
use Rattle.next_facts.proofs.some_fits.Given as goal

abbrev pub invariant-loop-i : goal.invariant-loop-i
invariant-loop-i l = Seeking l.facts l.env l.l.packed l.k l.i
