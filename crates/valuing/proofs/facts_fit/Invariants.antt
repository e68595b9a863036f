use Rattle.valuing.proofs.CheckLaws.{Naming}
use Rattle.valuing.proofs.facts_fit.Given as goal

abbrev pub invariant-loop-i : goal.invariant-loop-i
invariant-loop-i l = Naming l.arities l.n l.facts l.i
