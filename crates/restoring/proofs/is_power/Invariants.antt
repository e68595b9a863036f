use Rattle.restoring.proofs.PowerLaws.{Divided}
use Prim.Native.Nat.{◌-◌}
use Rattle.restoring.proofs.is_power.Given as goal

abbrev pub invariant-loop-i : goal.invariant-loop-i
invariant-loop-i l = Divided l.scale l.k l.power l.i l.x
