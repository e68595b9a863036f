use Rattle.valuing.proofs.FactLaws.{Scan}
use Rattle.valuing.proofs.scanned.Given as goal

abbrev pub invariant-loop-i : goal.invariant-loop-i
invariant-loop-i l = Scan l.facts l.env l.l.packed l.k l.from l.i
