use Rattle.write.proofs.NumberLaws.{Unmarking}
use Rattle.write.proofs.unmark.Given as goal

abbrev pub invariant-loop-i : goal.invariant-loop-i
invariant-loop-i l = Unmarking l.marks l.order l.m l.i-index
