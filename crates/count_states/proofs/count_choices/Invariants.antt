use Rattle.count_states.proofs.StateLaws.{Counting}
use Rattle.count_states.proofs.count_choices.Given as goal

abbrev pub invariant-loop-c : goal.invariant-loop-c
invariant-loop-c l = Counting l.arities l.words l.n l.constants l.rows l.g l.initial.facts l.initial.index l.initial.table l.states l.facts l.index l.table l.count l.c
