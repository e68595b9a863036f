use Rattle.facts.proofs.IndexLaws.{Unindexing}
use Rattle.facts.proofs.unindex.Given as goal

abbrev pub invariant-loop-i : goal.invariant-loop-i
invariant-loop-i l = Unindexing l.arities l.initial.state l.rows l.state l.i
