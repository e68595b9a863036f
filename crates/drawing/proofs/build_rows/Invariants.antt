use Rattle.drawing.specs.Stacks.{stack_words}
use Rattle.row_steps.specs.Running.{Ready}
use lib.ListN.{length}
use mathlib.Core.Path.{◌≡◌}
use Rattle.drawing.proofs.RunningLaws.{Running}
use Rattle.drawing.proofs.build_rows.Given as goal

abbrev pub invariant-loop-k : goal.invariant-loop-k
invariant-loop-k l = (length l.plan ≡ length l.initial.plan) × (length l.index ≡ length l.initial.index) × (length l.space ≡ length l.initial.space)
    × (length l.heads ≡ length l.initial.heads) × (length l.links ≡ length l.initial.links)
    × (length l.stack ≡ stack_words) × Ready l.plan l.index l.limit l.space l.heads l.links l.count × Running l.ops l.stack l.space l.tests l.results l.count l.k
