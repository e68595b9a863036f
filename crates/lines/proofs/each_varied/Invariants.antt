use Rattle.lines.proofs.PlaceLaws.{Varying}
use Rattle.lines.proofs.each_varied.Given as goal

abbrev pub invariant-loop-a : goal.invariant-loop-a
invariant-loop-a l = Varying l.table l.actions l.a
