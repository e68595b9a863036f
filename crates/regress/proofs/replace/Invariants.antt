use Rattle.regress.proofs.RowsLaws.{Going}
use Rattle.regress.specs.Tasks.{replaced_by}
use Rattle.row_steps.specs.Running.{Ready}
use lib.ListN.{length}
use mathlib.Core.Path.{◌≡◌}
use Rattle.regress.proofs.replace.Given as goal

abbrev pub invariant-loop-k : goal.invariant-loop-k
invariant-loop-k l = (length l.plan ≡ length l.initial.plan) × (length l.index ≡ length l.initial.index) × (length l.space ≡ length l.initial.space)
    × (length l.heads ≡ length l.initial.heads) × (length l.links ≡ length l.initial.links)
    × Ready l.plan l.index l.limit l.space l.heads l.links l.n × Going (replaced_by l.arities l.map) l.arities l.words l.initial.space l.count l.space l.numbers l.n l.root l.k
