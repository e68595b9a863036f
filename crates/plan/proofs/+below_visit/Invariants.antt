use Rattle.std.proofs.Common.{ℕ, ◌+◌, ◌*◌}
use Prim.Native.Nat.{◌/◌, ◌%◌}
use Rattle.diagram.specs.Sizes.{space_rows}
use Rattle.plan.proofs.+below_visit.Given as goal

-- what falls: the sum of the rows of a key's pair
abbrev rows_of : ℕ → ℕ
rows_of k = k / space_rows + k % space_rows

abbrev pub decreases-below : goal.decreases-below
decreases-below l = rows_of l.k * 2

abbrev pub decreases-visit : goal.decreases-visit
decreases-visit l = rows_of l.k * 2 + 1
