-- A listing in the result buffer renamed where it stands (document 01, sections 'Combination', closing up, and 'Regression', freeing), by a map that keeps
-- the order of its terms.
use Rattle.std.specs.Prelude.{true, cond, ◌≡◌, List, map, ℕ, ◌*◌, ◌≤◌, length, take, eqb}
use Rattle.label.specs.Limits.{leaf_mark}
use Rattle.label.specs.Inner.{map_of}
use Rattle.label.specs.Renamings.{renamed}
use Rattle.label.specs.Callers.{TermMap, Movable}
use Rattle.diagram.specs.Diagram.{Diagram}
use Rattle.diagram.specs.Rows.{rows}
use Rattle.diagram.specs.Words.{is_listing}
use Rattle.diagram.specs.Listing.{diagram_of}
use Rattle.store.specs.Load.{renamed_of}

-- the diagram of the listing that the first m rows of the buffer are
abbrev pub listed_in : List ℕ → ℕ → Diagram
listed_in out m = diagram_of (take (m * 3) out)

-- the first word of a row: a label renamed, or a leaf's mark
unfoldable pub word_after : List ℕ → List ℕ → ℕ → ℕ
word_after ar ts x = cond (eqb x leaf_mark) leaf_mark (renamed ar (map_of ts) x)

-- what `word_after` requires
pub record Word (ar ts : List ℕ) (x : ℕ) : Type 0 where
  pub movable : (x ≡ leaf_mark → ⊥) → Movable ar ts x

-- what `rename` requires: the first m rows are a listing, and the map keeps its rows apart and in order
pub record Renamable (ar ts out : List ℕ) (m : ℕ) : Type 0 where
  pub listing : is_listing ar (take (m * 3) out) ≡ true
  pub terms : TermMap ts
  pub room : m * 3 ≤ length out
  pub keeps : rows (renamed_of ar ts (listed_in out m)) ≡ map (renamed_of ar ts) (rows (listed_in out m))
