-- What is left of the rows, formed one after another in the working space.
use Rattle.std.specs.Prelude.{◌≡◌, List, ℕ, pred, ◌+◌, ◌*◌, ◌≤◌, ◌<◌, length, get_or}
use Rattle.diagram.specs.Sizes.{most_rows, space_words}
use Rattle.diagram.specs.Diagram.{leaf}
use Rattle.diagram.specs.Words.{row_count}
use Rattle.diagram.specs.Validity.{tree}
use Rattle.paths.specs.Inner.{Rows}
use Rattle.store.specs.Space.{Holds}
use Rattle.apart.specs.Results.{Stands}
use Rattle.pruning.specs.Pruning.{kept_of, stays_in}
use Rattle.std.specs.Prelude.{Option}

-- the rows of a listing, with two words for each
pub record Edged (ws edges : List ℕ) : Type 0 where
  pub rows : Rows ws (row_count ws)
  pub some : 1 ≤ row_count ws
  pub places : row_count ws * 2 ≤ length edges

-- what is left of the first i rows of the listing ws is among the count rows of the space; `numbers` has their places, and row 0 is leaf 0
pub record Keeping (ws edges s heads links numbers : List ℕ) (count i : ℕ) : Type 0 where
  pub edged : Edged ws edges
  pub within : i ≤ row_count ws
  pub places : most_rows ≤ length numbers
  pub holds : Holds s heads links count
  pub few : count ≤ i + 1
  pub zero-there : 0 < count
  pub zero_is : tree s 0 ≡ leaf 0
  pub each : (j : ℕ) → j < i → (get_or numbers j 0 < count) × (tree s (get_or numbers j 0) ≡ kept_of (stays_in ws edges) (tree ws j))

-- what forming all rows starts from
pub record Keepable (ws edges s : List ℕ) : Type 0 where
  pub edged : Edged ws edges
  pub room : space_words ≤ length s

-- what is left of the last row has its place; there is always room
pub record Kept (ws edges : List ℕ) (r : Option (ℕ × ℕ)) (s : List ℕ) : Type 0 where
  pub stands : Stands (kept_of (stays_in ws edges) (tree ws (pred (row_count ws)))) r s
