use Rattle.fact_index.specs.Inner.{Indexed}
use Rattle.fact_index.proofs.index_facts.Given as goal

abbrev pub invariant-loop-i : goal.invariant-loop-i
invariant-loop-i l = Indexed l.arities l.facts l.index l.i
