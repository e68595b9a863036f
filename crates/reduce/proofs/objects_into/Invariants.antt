use mathlib.Core.Path.{◌≡◌}
use Prim.Native.Nat.{◌-◌}
use lib.ListN.{length}
use Rattle.reduce.specs.Tables.{Dividing}
use Rattle.reduce.proofs.objects_into.Given as goal

abbrev pub invariant-loop-j : goal.invariant-loop-j
invariant-loop-j l = (length l.out ≡ length l.initial.out) × Dividing l.v l.i l.initial.out l.out l.j (l.v - l.j) l.x l.p
