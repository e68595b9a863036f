-- Which edge goes, as the code finds it: paths by their numbers, and what is known of each (document 01, section 'Cut').
use Rattle.std.specs.Prelude.{◌≡◌, ◌≢◌, Bool, true, false, not, ◌&&◌, ◌||◌, List, ℕ, zero, suc, ◌+◌, ◌-◌, ◌*◌, ◌≤◌, ◌<◌, length, get_or, eqb, leb}
use Rattle.label.specs.Limits.{first_minimum, leaf_mark}
use Rattle.diagram.specs.Words.{label_at, row_count, is_listing}
use Rattle.diagram.specs.Listing.{diagram_of}
use Rattle.diagram.specs.Validity.{tree}
use Rattle.diagram.specs.Variables.{is_plain}
use Rattle.paths.specs.Paths.{Path, most_paths}
use Rattle.cutting.specs.Cut.{Choice, goes, stays, covers, may_go}
use Rattle.paths.specs.Inner.{Routed, Leaves, Sided}
use Rattle.paths.specs.Routes.{path_at}
use Rattle.matcher.specs.Covering.{Held}
use Rattle.std.specs.Prelude.{None, Option, Some}

-- path p of the n rows of words
abbrev pub path_of : List ℕ → ℕ → ℕ → Path
path_of ws n p = path_at (tree ws (n - 1)) p

-- where each of the first m paths goes through row r
pub record Sides (ws sides : List ℕ) (n m r : ℕ) : Type 0 where
  pub places : m ≤ length sides
  pub each : (p : ℕ) → p < m → Sided (tree ws r) (path_of ws n p) (get_or sides p 0)

-- all that is known of a listing's paths before an edge is asked about
pub record Charted (ar ws counts leaves : List ℕ) (n m : ℕ) : Type 0 where
  pub listed : is_listing ar ws ≡ true
  pub plain : is_plain ar (diagram_of ws) ≡ true
  pub whole : n ≡ row_count ws
  pub routed : Routed ws counts n m
  pub ends : Leaves ws leaves n m

-- whether path q covers path p is asked once for all edges: 0 not asked yet, 1 yes, 2 no
abbrev pub place_of : ℕ → ℕ → ℕ
place_of p q = p * most_paths + q

pub record Known (ar ws memo : List ℕ) (n : ℕ) : Type 0 where
  pub places : most_paths * most_paths ≤ length memo
  pub told : (p q : ℕ) → p < most_paths → q < most_paths → get_or memo (place_of p q) 0 ≢ 0
      → covers ar (path_of ws n p) (path_of ws n q) ≡ eqb (get_or memo (place_of p q) 0) 1

-- what is at hand when paths are asked about
pub record Asking (ar ws counts leaves sides memo : List ℕ) (n m : ℕ) : Type 0 where
  pub charted : Charted ar ws counts leaves n m
  pub places : m ≤ length sides
  pub known : Known ar ws memo n

-- path p is held for others to cover it, and there is room to write one of them
pub record Facing (ar ws into : List ℕ) (a : ℕ) (kinds from : List ℕ) (n p : ℕ) : Type 0 where
  pub held : Held ar (path_of ws n p) into a kinds
  pub room : first_minimum + most_paths ≤ length from

-- a test that may ask about paths
pub record Tested (ar ws : List ℕ) (n : ℕ) (b r : Bool) (memo' : List ℕ) : Type 0 where
  pub answer : r ≡ b
  pub known : Known ar ws memo' n

-- the edge is the one that paths of that side go through: path q avoids it, and covers path p
unfoldable pub is_cover_on : List ℕ → List ℕ → ℕ → List ℕ → ℕ → ℕ → ℕ → Bool
is_cover_on ar ws n sides side p q =
    not (eqb (get_or sides q 0) side) && (leb (path_of ws n p).end (path_of ws n q).end && covers ar (path_of ws n p) (path_of ws n q))

-- .. one of the first m paths does
unfoldable pub cover_below : List ℕ → List ℕ → ℕ → List ℕ → ℕ → ℕ → ℕ → Bool
unfolding is_cover_on
cover_below ar ws n sides side p zero = false
cover_below ar ws n sides side p (suc q) = cover_below ar ws n sides side p q || is_cover_on ar ws n sides side p q

-- path p is not in the way of the edge
unfoldable pub is_free_on : List ℕ → List ℕ → ℕ → List ℕ → ℕ → ℕ → ℕ → Bool
unfolding cover_below
is_free_on ar ws n sides side m p = not (eqb (get_or sides p 0) side) || (eqb (path_of ws n p).end 0 || cover_below ar ws n sides side p m)

-- .. none of the first k paths is
unfoldable pub free_below : List ℕ → List ℕ → ℕ → List ℕ → ℕ → ℕ → ℕ → Bool
unfolding is_free_on
free_below ar ws n sides side m zero = true
free_below ar ws n sides side m (suc p) = free_below ar ws n sides side m p && is_free_on ar ws n sides side m p

-- an edge that is asked about: row r is a branch, 1 stands for its true edge and 2 for its false edge
pub record Edged (ws sides : List ℕ) (n m r side : ℕ) : Type 0 where
  pub row : r < n
  pub branch : label_at ws r ≢ leaf_mark
  pub low : 1 ≤ side
  pub high : side ≤ 2
  pub on : Sides ws sides n m r

-- the edges of a row that may go, true edge first: 1, 2, or 0 for none
abbrev pub first_edge : Bool → Bool → ℕ
first_edge true y = 1
first_edge false true = 2
first_edge false false = 0

pub record EdgeFound (ar ws : List ℕ) (n r e : ℕ) (memo' : List ℕ) : Type 0 where
  pub answer : e ≡ first_edge (may_go ar (tree ws (n - 1)) true (tree ws r)) (may_go ar (tree ws (n - 1)) false (tree ws r))
  pub known : Known ar ws memo' n

-- the choice as it is handed on
abbrev pub chosen_as : Choice → Option (ℕ × Bool)
chosen_as (goes k b) = Some (k, b)
chosen_as stays = None
