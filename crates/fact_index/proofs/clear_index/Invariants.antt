use Rattle.fact_index.proofs.FactLaws.{Cleaning}
use Rattle.fact_index.proofs.clear_index.Given as goal

abbrev pub invariant-loop-i : goal.invariant-loop-i
invariant-loop-i l = Cleaning l.arities l.facts l.index l.i
