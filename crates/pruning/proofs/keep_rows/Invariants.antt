use mathlib.Core.Path.{◌≡◌}
use lib.ListN.{length}
use Rattle.pruning.specs.Keeping.{Keeping}
use Rattle.pruning.proofs.keep_rows.Given as goal

abbrev pub invariant-loop-i : goal.invariant-loop-i
invariant-loop-i l = (length l.space ≡ length l.initial.space) × (length l.heads ≡ length l.initial.heads) × (length l.links ≡ length l.initial.links) × (length l.numbers ≡ length l.initial.numbers)
    × Keeping l.words l.edges l.space l.heads l.links l.numbers l.count l.i
