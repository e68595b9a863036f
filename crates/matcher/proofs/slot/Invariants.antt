use Prim.Native.Nat.{◌<◌}
use Rattle.matcher.proofs.slot.Given as goal

abbrev pub invariant-loop-i : goal.invariant-loop-i
invariant-loop-i l = l.h < 65536
