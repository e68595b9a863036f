use Rattle.count_states.proofs.RowLaws.{Following}
use Rattle.count_states.proofs.write_facts.Given as goal

abbrev pub invariant-loop-t : goal.invariant-loop-t
invariant-loop-t l = Following l.initial.rows l.at l.p l.n l.k l.m l.rows l.t
