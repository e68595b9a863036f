use Rattle.reader.proofs.NumberCode.{Spelling}
use Rattle.reader.proofs.spell.Given as goal

abbrev pub invariant-loop-i : goal.invariant-loop-i
invariant-loop-i l = Spelling l.initial.out l.at l.m l.left l.out l.i l.rest
