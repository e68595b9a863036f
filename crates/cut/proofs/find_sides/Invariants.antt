use mathlib.Core.Path.{◌≡◌}
use Prim.Native.Nat.{◌≤◌}
use lib.ListN.{length}
use Rattle.cut.specs.Choosing.{Sides}
use Rattle.cut.proofs.find_sides.Given as goal

abbrev pub invariant-loop-p : goal.invariant-loop-p
invariant-loop-p l = (length l.sides ≡ length l.initial.sides) × (l.p ≤ l.m) × Sides l.words l.sides l.n l.p l.r
