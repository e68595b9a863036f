use Rattle.lines.proofs.PlaceLaws.{Marking}
use Rattle.lines.proofs.each_placed.Given as goal

abbrev pub invariant-loop-c : goal.invariant-loop-c
invariant-loop-c l = Marking l.state l.constants l.c
