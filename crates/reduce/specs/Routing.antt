-- The paths of a listing as the code has them, and the winning ones marked (document 02, L13).
use Rattle.std.specs.Prelude.{Bool, not, ◌&&◌, cond, List, [], ◌∷◌, ℕ, zero, suc, ◌-◌, ◌≤◌, ◌<◌, length, get_or, eqb}
use Rattle.diagram.specs.Diagram.{Diagram}
use Rattle.diagram.specs.Words.{row_count}
use Rattle.diagram.specs.Validity.{tree}
use Rattle.paths.specs.Paths.{through}
use Rattle.paths.specs.Inner.{Routed}
use Rattle.paths.specs.Routes.{path_at}
use Rattle.reduction.specs.Reduction.{is_on}

-- those of the first m paths that are marked, the last first
unfoldable pub winning : List ℕ → ℕ → List ℕ
winning wins zero = []
winning wins (suc p) = cond (eqb (get_or wins p 0) 0) (winning wins p) (p ∷ winning wins p)

-- path p is marked, and goes through the edge of the row r on the side b
unfoldable pub is_on_path : Diagram → List ℕ → Diagram → Bool → ℕ → Bool
unfolding through path_at
is_on_path d wins r b p = not (eqb (get_or wins p 0) 0) && through r b (path_at d p)

-- the edges of the listing ws on one of the m paths that is marked
abbrev pub stays_in : List ℕ → List ℕ → ℕ → Diagram → Bool → Bool
stays_in ws wins m = is_on (tree ws (row_count ws - 1)) (winning wins m)

-- a mark for each of m paths
pub record Won (ws counts wins : List ℕ) (n m : ℕ) : Type 0 where
  pub routed : Routed ws counts n m
  pub places : m ≤ length wins

-- an edge that is asked about: 1 stands for the true edge of row r, 2 for its false edge
pub record Edged (n r side : ℕ) : Type 0 where
  pub row : r < n
  pub low : 1 ≤ side
  pub high : side ≤ 2
