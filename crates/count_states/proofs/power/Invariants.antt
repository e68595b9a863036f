use Rattle.count_states.proofs.PowerLaws.{Powering}
use Rattle.count_states.proofs.power.Given as goal

abbrev pub invariant-loop-i : goal.invariant-loop-i
invariant-loop-i l = Powering l.n l.k l.p l.i
