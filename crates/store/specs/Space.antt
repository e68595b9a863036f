-- The working space (document 01, section 'Combination': "rows formed in one call share a working space of 2,048 rows, equal ones counted once, none
-- given up"): words that hold the rows, and an index over them. What it means is the list of the rows' diagrams.
use Rattle.std.specs.Prelude.{cond, ◌≡◌, List, [], ◌∷◌, map, ℕ, ◌<◌, length, take, eqb, leb}
use Rattle.label.specs.Limits.{leaf_mark}
use Rattle.table.specs.declared.Row.{Row as TableRow}
use Rattle.table.specs.Table.{Table}
use Rattle.diagram.specs.Sizes.{space_rows}
use Rattle.diagram.specs.Diagram.{Diagram, leaf, branch}
use Rattle.diagram.specs.Words.{up_to}
use Rattle.diagram.specs.Listing.{index}
use Rattle.diagram.specs.Validity.{tree}
use Rattle.diagram.specs.Inner.{Written}
use Rattle.apply.specs.Formed.{add}
use Rattle.std.specs.Prelude.{None, Option, Some}

-- the diagrams of the first count rows
unfoldable pub diagrams_of : List ℕ → ℕ → List Diagram
diagrams_of s count = map (tree s) (up_to count)

-- the space holds count rows, indexed
pub record Holds (s heads links : List ℕ) (count : ℕ) : Type 0 where
  pub table : Table s heads links space_rows count
  pub written : Written s (diagrams_of s count)

-- the diagram that a row's words stand for, where its children are rows of the space
unfoldable pub stands_for : List ℕ → TableRow → Diagram
stands_for s r = cond (eqb r.label leaf_mark) (leaf r.high) (branch r.label (tree s r.high) (tree s r.low))

-- a row that may be formed in a space of count rows: a leaf, or a branch whose children are rows of the space
pub data Formable (count : ℕ) (r : TableRow) : Type 0 where
  a-leaf : r.label ≡ leaf_mark → r.low ≡ 0 → Formable count r
  a-branch : r.label < leaf_mark → r.high < count → r.low < count → Formable count r

-- what `branch` requires
pub record Children (count label high low : ℕ) : Type 0 where
  pub label-below : label < leaf_mark
  pub high-there : high < count
  pub low-there : low < count

-- what forming answers, where the rows are rs then: the number of the row d and the count of rows, or that they are above 2,048 (refusal 9)
unfoldable pub form_answer : Diagram → List Diagram → Option (ℕ × ℕ)
form_answer d rs = cond (leb (length rs) space_rows) (Some ((index d rs), (length rs))) None

-- the rows in the space after an answer
abbrev pub rows_then : Option (ℕ × ℕ) → ℕ
rows_then (Some (i, n)) = n
rows_then None = space_rows

-- what forming the rows rs, with d among them, ensures: the answer, and a space that holds as many of rs as there is room for
pub record Formation (d : Diagram) (rs : List Diagram) (r : Option (ℕ × ℕ)) (s heads links : List ℕ) : Type 0 where
  pub answer : r ≡ form_answer d rs
  pub diagrams : diagrams_of s (rows_then r) ≡ take space_rows rs
  pub holds : Holds s heads links (rows_then r)

-- the rows rs, and behind them those of ds that are not there yet
unfoldable pub add_all : List Diagram → List Diagram → List Diagram
unfolding add
add_all rs [] = rs
add_all rs (d ∷ ds) = add_all (add d rs) ds
