use Rattle.rename.proofs.MapSteps.{FreeFill}
use Rattle.rename.proofs.free_map.Given as goal

abbrev pub invariant-loop-t : goal.invariant-loop-t
invariant-loop-t l = FreeFill l.count l.initial.map l.map l.t
