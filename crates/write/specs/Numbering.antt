-- The numbers that a walk from a row of the working space gives the rows it finishes (document 01, section 'Terms, labels, listings': "rows are numbered as
-- a walk from the root, true branch first, finishes them").
use Rattle.std.specs.Prelude.{◌≡◌, ◌≢◌, List, ℕ, suc, ◌+◌, ◌*◌, ◌≤◌, ◌<◌, length, get_or, set, take}
use Rattle.label.specs.Limits.{leaf_mark}
use Rattle.diagram.specs.Sizes.{space_rows}
use Rattle.diagram.specs.Words.{label_at, high_at, low_at, finish}

-- n rows are numbered: `order` has the row of each number, `marks` the number of each row, one up, and 0 for none
pub record Marked (marks order : List ℕ) (n : ℕ) : Type 0 where
  pub mark-places : space_rows ≤ length marks
  pub order-places : space_rows ≤ length order
  pub few : n ≤ space_rows
  pub numbered : (i : ℕ) → i < n → (get_or order i 0 < space_rows) × (get_or marks (get_or order i 0) 0 ≡ suc i)
  pub marked : (k i : ℕ) → k < space_rows → get_or marks k 0 ≡ suc i → (i < n) × (get_or order i 0 ≡ k)

-- no row is marked
pub record Unmarked (marks : List ℕ) : Type 0 where
  pub places : space_rows ≤ length marks
  pub zeros : (k : ℕ) → k < space_rows → get_or marks k 0 ≡ 0

-- n rows are numbered, and row i is not
pub record Unnumbered (marks order : List ℕ) (n i : ℕ) : Type 0 where
  pub rows : Marked marks order n
  pub none : get_or marks i 0 ≡ 0

-- what `place` requires: row i has no number yet, and there is one
pub record Placeable (marks order : List ℕ) (n i : ℕ) : Type 0 where
  pub rows : Marked marks order n
  pub room : n < space_rows
  pub row : i < space_rows
  pub none : get_or marks i 0 ≡ 0

-- what `place` ensures: row i has the number n
pub record Placed (marks order : List ℕ) (n i r : ℕ) (marks' order' : List ℕ) : Type 0 where
  pub count : r ≡ n + 1
  pub marks-are : marks' ≡ set marks i (n + 1)
  pub order_is : order' ≡ set order n i

-- the rows up to i are there, and their children stand before them
pub record Downward (s : List ℕ) (i : ℕ) : Type 0 where
  pub room : i * 3 + 3 ≤ length s
  pub small : i < space_rows
  pub children : (k : ℕ) → k ≤ i → label_at s k ≢ leaf_mark → (high_at s k < k) × (low_at s k < k)

-- what `number` ensures: the walk from row i numbers what it finishes, up to r; rows above i keep their marks
pub record Numbered (s marks order : List ℕ) (n i r : ℕ) (marks' order' : List ℕ) : Type 0 where
  pub rows : Marked marks' order' r
  pub finished : (depth : ℕ) → i < depth → take r order' ≡ finish s depth i (take n order)
  pub above : (k : ℕ) → i < k → get_or marks' k 0 ≡ get_or marks k 0
