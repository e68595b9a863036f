use Rattle.count_states.proofs.RowLaws.{Filling}
use Rattle.count_states.proofs.fill_places.Given as goal

abbrev pub invariant-loop-j : goal.invariant-loop-j
invariant-loop-j l = Filling l.initial.row l.n l.k l.t l.row l.rest l.j
