use Rattle.weights.proofs.SumLaws.{Summing}
use lib.ListN.{length}
use mathlib.Core.Path.{◌≡◌}
use Rattle.weights.proofs.weights_sum.Given as goal

abbrev pub invariant-loop-v : goal.invariant-loop-v
invariant-loop-v l = (length l.out ≡ length l.initial.out) × (length l.work ≡ length l.initial.work) × Summing l.arities l.listings l.table l.action l.out l.n l.v
