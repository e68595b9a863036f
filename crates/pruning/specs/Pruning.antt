-- Edges of a listing that stay, and what is left once the others go to leaf 0 (document 02, L13: "then reduce and close up").
use Rattle.std.specs.Prelude.{◌≡◌, ◌≢◌, Bool, true, false, not, cond, List, ℕ, zero, suc, ◌+◌, ◌*◌, ◌≤◌, ◌<◌, length, get_or, eqb}
use Rattle.label.specs.Limits.{leaf_mark}
use Rattle.diagram.specs.Sizes.{result_words, space_words}
use Rattle.diagram.specs.Diagram.{Diagram, same}
use Rattle.diagram.specs.Rows.{rows}
use Rattle.diagram.specs.Words.{label_at, row_count, is_listing}
use Rattle.diagram.specs.Listing.{listing, diagram_of}
use Rattle.diagram.specs.Validity.{tree}
use Rattle.diagram.specs.Variables.{closed}
use Rattle.paths.specs.Paths.{paths, most_paths}
use Rattle.paths.specs.Inner.{bit}
use Rattle.cutting.specs.Cut.{reduced, written}
use Rattle.reduction.specs.Reduction.{keeping}

-- what is left of the diagram d, once every edge that the test does not name goes to leaf 0
unfoldable pub kept_of : (Diagram → Bool → Bool) → Diagram → Diagram
kept_of stays d = reduced (keeping stays d)

-- a row has two words, its true edge's first
abbrev pub edge_at : ℕ → Bool → ℕ
edge_at i true = i * 2
edge_at i false = i * 2 + 1

-- they say of each branch row what the test says: 1 where the edge stays, 0 where it goes
pub record Agrees (ws edges : List ℕ) (stays : Diagram → Bool → Bool) : Type 0 where
  pub each : (i : ℕ) → i < row_count ws → label_at ws i ≢ leaf_mark → (b : Bool) → get_or edges (edge_at i b) 0 ≡ bit (stays (tree ws i) b)

-- what the words say of a row's edge, and as a test of the diagrams of the first n rows
abbrev pub stays : List ℕ → ℕ → Bool → Bool
stays edges i b = not (eqb (get_or edges (edge_at i b) 0) 0)

unfoldable pub stays_below : List ℕ → List ℕ → ℕ → Diagram → Bool → Bool
stays_below ws edges zero d b = false
stays_below ws edges (suc i) d b = cond (same (tree ws i) d) (stays edges i b) (stays_below ws edges i d b)

abbrev pub stays_in : List ℕ → List ℕ → Diagram → Bool → Bool
stays_in ws edges = stays_below ws edges (row_count ws)

-- what the call requires: a listing of few paths, two words for each row, and room for a result and for the rows formed
pub record Prunable (ar ws edges out work : List ℕ) : Type 0 where
  pub listing : is_listing ar ws ≡ true
  pub few : length (paths (diagram_of ws)) ≤ most_paths
  pub places : row_count ws * 2 ≤ length edges
  pub out-room : result_words ≤ length out
  pub work-room : space_words ≤ length work

-- what it ensures: what is left, closed up, stands in the result buffer, the words behind it as they were
pub record Pruned (ar ws : List ℕ) (stays : Diagram → Bool → Bool) (out : List ℕ) (r : ℕ) (out' : List ℕ) : Type 0 where
  pub answer : r ≡ length (rows (closed ar (kept_of stays (diagram_of ws))))
  pub words : out' ≡ written (listing (closed ar (kept_of stays (diagram_of ws)))) out
