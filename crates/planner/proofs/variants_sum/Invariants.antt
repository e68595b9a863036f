use Rattle.planner.proofs.SumLaws.{Summing}
use lib.ListN.{length}
use Prim.Native.Nat.{◌-◌}
use mathlib.Core.Path.{◌≡◌}
use Rattle.planner.proofs.variants_sum.Given as goal

abbrev pub invariant-loop-v : goal.invariant-loop-v
invariant-loop-v l = (length l.out ≡ length l.initial.out) × (length l.work ≡ length l.initial.work) × Summing l.arities l.listings l.table l.action l.g l.value l.out l.n l.v
