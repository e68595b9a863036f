use Rattle.planner.proofs.SumLaws.{Trying}
use lib.ListN.{length}
use Prim.Native.Nat.{◌-◌}
use mathlib.Core.Path.{◌≡◌}
use Rattle.planner.proofs.actions_best.Given as goal

abbrev pub invariant-loop-a : goal.invariant-loop-a
invariant-loop-a l = (length l.out ≡ length l.initial.out) × (length l.work ≡ length l.initial.work) × Trying l.arities l.listings l.table l.actions l.g l.value l.out l.n l.a
