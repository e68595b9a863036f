-- What contracts of inner functions and proofs cite. Nothing here has to be believed.
use Rattle.std.specs.Prelude.{◌≡◌, ◌≢◌, Bool, true, false, List, ◌++◌, ℕ, ◌+◌, ◌*◌, ◌≤◌, ◌<◌, length}
use Rattle.label.specs.Limits.{leaf_mark}
use Rattle.table.specs.Rows.{row_at}
use Rattle.table.specs.Table.{Table}
use Rattle.diagram.specs.Words.{label_at, high_at, low_at, up_to, finish}

-- row i is entered into the index, unless an equal row stands before it
pub record Entered (ws : List ℕ) (limit i : ℕ) (b : Bool) (heads links : List ℕ) : Type 0 where
  pub yes : b ≡ true → Table ws heads links limit (i + 1)
  pub no : b ≡ false → ((j : ℕ) → j < i → row_at ws j ≡ row_at ws i → ⊥) → ⊥

-- the rows up to i are there, and their children stand before them
pub record Downward (ws : List ℕ) (i : ℕ) : Type 0 where
  pub room : i * 3 + 3 ≤ length ws
  pub children : (k : ℕ) → k ≤ i → label_at ws k ≢ leaf_mark → (high_at ws k < k) × (low_at ws k < k)

-- no way on makes 0, 1, .., m - 1 of these
abbrev pub Off : List ℕ → Type 0
Off xs = (more : List ℕ) (m : ℕ) → xs ++ more ≡ up_to m → ⊥

-- where 0 .. n - 1 are finished, a walk from row i finishes up to r - 1 in order; or, for r = 0, not in order
pub record Walked (ws : List ℕ) (i n r : ℕ) : Type 0 where
  pub yes : (r ≡ 0 → ⊥) → (depth : ℕ) → i < depth → finish ws depth i (up_to n) ≡ up_to r
  pub no : r ≡ 0 → (depth : ℕ) → i < depth → Off (finish ws depth i (up_to n))
