use Rattle.count_states.proofs.RowLaws.{Laying}
use Rattle.count_states.proofs.write_ground.Given as goal

abbrev pub invariant-loop-p : goal.invariant-loop-p
invariant-loop-p l = Laying l.arities l.predicates l.n l.initial.rows l.rows l.at l.p
