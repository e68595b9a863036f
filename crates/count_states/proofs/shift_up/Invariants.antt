use Rattle.count_states.proofs.TableLaws.{Shifting}
use Rattle.count_states.proofs.shift_up.Given as goal

abbrev pub invariant-loop-i : goal.invariant-loop-i
invariant-loop-i l = Shifting l.initial.table l.at l.count l.table l.i
