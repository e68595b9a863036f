use Rattle.rename.proofs.MapSteps.{Closing}
use Rattle.rename.proofs.close_map.Given as goal

abbrev pub invariant-loop-t : goal.invariant-loop-t
invariant-loop-t l = Closing l.used l.first l.minimum l.initial.map l.map l.t l.next
