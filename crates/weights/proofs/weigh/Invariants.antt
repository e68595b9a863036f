use Rattle.weights.proofs.ActionLaws.{Weighing}
use lib.ListN.{length}
use mathlib.Core.Path.{◌≡◌}
use Rattle.weights.proofs.weigh.Given as goal

abbrev pub invariant-loop-a : goal.invariant-loop-a
invariant-loop-a l = (length l.work ≡ length l.initial.work) × Weighing l.arities l.listings l.table l.actions l.total l.a
