use Rattle.words.proofs.KeyCode.{Part}
use Rattle.words.proofs.little_of.Given as goal

abbrev pub invariant-loop-i : goal.invariant-loop-i
invariant-loop-i l = Part l.s l.i l.v
