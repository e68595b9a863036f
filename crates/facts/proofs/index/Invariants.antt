use Rattle.facts.proofs.IndexLaws.{Rowing}
use Rattle.facts.proofs.index.Given as goal

abbrev pub invariant-loop-i : goal.invariant-loop-i
invariant-loop-i l = Rowing l.arities l.initial.state l.rows l.state l.i
