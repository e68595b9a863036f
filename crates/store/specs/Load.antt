-- The rows of a lent listing formed in the working space with their terms renamed (document 01, section 'Combination': "an apart call forms both
-- operands' rows as renamed").
use Rattle.std.specs.Prelude.{true, cond, ◌≡◌, List, map, ℕ, ◌≤◌, ◌<◌, length, get_or, eqb}
use Rattle.label.specs.Limits.{leaf_mark}
use Rattle.label.specs.Inner.{map_of}
use Rattle.label.specs.Renamings.{renamed}
use Rattle.label.specs.Callers.{TermMap}
use Rattle.table.specs.declared.Row.{Row as TableRow}
use Rattle.diagram.specs.Diagram.{Diagram, relabel}
use Rattle.diagram.specs.Rows.{rows}
use Rattle.diagram.specs.Words.{label_at, high_at, low_at, row_count, is_listing}
use Rattle.diagram.specs.Listing.{diagram_of}
use Rattle.diagram.specs.Validity.{tree}
use Rattle.store.specs.Space.{diagrams_of, Holds, Formation, add_all}
use Rattle.std.specs.Prelude.{Option, Some}

-- row k of the listing ws as a row of the space: its label renamed, its children by their numbers there
unfoldable pub carried : List ℕ → List ℕ → List ℕ → List ℕ → ℕ → TableRow
carried ar ws ts numbers k =
    cond {A = TableRow} (eqb (label_at ws k) leaf_mark) (record { label = leaf_mark; high = high_at ws k; low = 0 })
    (record { label = renamed ar (map_of ts) (label_at ws k); high = get_or numbers (high_at ws k) 0; low = get_or numbers (low_at ws k) 0 })

-- the diagram of the listing ws, its terms renamed by the map ts
abbrev pub renamed_of : List ℕ → List ℕ → Diagram → Diagram
renamed_of ar ts d = relabel (renamed ar (map_of ts)) d

-- what `carry` requires of the listing, the map and the row's number
pub record Carriable (ar ws ts numbers : List ℕ) (k : ℕ) : Type 0 where
  pub listing : is_listing ar ws ≡ true
  pub terms : TermMap ts
  pub places : row_count ws ≤ length numbers
  pub within : k < row_count ws

-- what `load` requires: a listing, a map of terms, a place for the number of each row, and a space
pub record Loadable (ar ws ts s heads links : List ℕ) (count : ℕ) (numbers : List ℕ) : Type 0 where
  pub listing : is_listing ar ws ≡ true
  pub terms : TermMap ts
  pub places : row_count ws ≤ length numbers
  pub holds : Holds s heads links count

-- what `load` ensures: the rows of the listing are formed in number order, each renamed; where there is room, `numbers` has the place of each
pub record Loaded (ar ws ts s : List ℕ) (count : ℕ) (r : Option (ℕ × ℕ)) (s' heads' links' numbers' : List ℕ) : Type 0 where
  pub formation : Formation (renamed_of ar ts (diagram_of ws)) (add_all (diagrams_of s count) (map (renamed_of ar ts) (rows (diagram_of ws)))) r s' heads' links'
  pub numbers : (i n k : ℕ) → r ≡ Some (i, n) → k < row_count ws → (get_or numbers' k 0 < n) × (tree s' (get_or numbers' k 0) ≡ renamed_of ar ts (tree ws k))
