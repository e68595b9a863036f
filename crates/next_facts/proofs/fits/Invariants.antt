use Rattle.next_facts.proofs.RowLaws.{Fitting}
use Rattle.next_facts.proofs.fits.Given as goal

abbrev pub invariant-loop-j : goal.invariant-loop-j
invariant-loop-j l = Fitting l.facts l.env l.l.packed l.k l.i l.j
