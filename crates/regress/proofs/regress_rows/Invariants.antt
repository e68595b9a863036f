use mathlib.Core.Path.{◌≡◌}
use lib.ListN.{length}
use Rattle.row_steps.specs.Running.{Ready}
use Rattle.regression.specs.RegressCall.{truths_of}
use Rattle.regression.specs.Regression.{truth_at}
use Rattle.regress.specs.Keeping.{Keeps}
use Rattle.regress.proofs.RowsLaws.{Going}
use Rattle.regress.proofs.regress_rows.Given as goal

abbrev pub invariant-loop-k : goal.invariant-loop-k
invariant-loop-k l = (length l.plan ≡ length l.initial.plan) × (length l.index ≡ length l.initial.index) × (length l.space ≡ length l.initial.space)
    × (length l.heads ≡ length l.initial.heads) × (length l.links ≡ length l.initial.links)
    × Ready l.plan l.index l.limit l.space l.heads l.links l.n × Going (truth_at l.arities (truths_of l.truths l.spans)) l.arities l.value l.initial.space 0 l.space l.numbers l.n l.root l.k
    × Keeps l.arities (truths_of l.truths l.spans) l.space l.n l.kept
