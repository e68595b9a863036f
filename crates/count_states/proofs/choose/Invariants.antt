use Rattle.count_states.proofs.ChoiceLaws.{Picking}
use Rattle.count_states.proofs.choose.Given as goal

abbrev pub invariant-loop-i : goal.invariant-loop-i
invariant-loop-i l = Picking l.rows l.g l.c l.initial.facts l.facts l.m l.rest l.i
