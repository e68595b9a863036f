-- Walking a path by its number, step by step: what the parts of the walk keep.
use Rattle.std.specs.Prelude.{◌≡◌, Bool, List, ◌++◌, ℕ, ◌+◌, ◌*◌, ◌<◌, length, get_or, take, drop}
use Rattle.diagram.specs.Words.{label_at}
use Rattle.diagram.specs.Validity.{tree}
use Rattle.paths.specs.Paths.{step_before, through}
use Rattle.paths.specs.Inner.{bit, codes, label_end, At}
use Rattle.paths.specs.Routes.{path_at}
use Rattle.paths.specs.declared.Here.{Here}

-- one step on from row i on path k
pub record Stepped (ws : List ℕ) (n i k : ℕ) (s : Here) : Type 0 where
  pub at : At ws n s.row s.rest
  pub before : s.row < i
  pub side : Bool
  pub is : path_at (tree ws i) k ≡ step_before (record { from = tree ws i; label = label_at ws i; side = side }) (path_at (tree ws s.row) s.rest)
  pub code : s.code ≡ label_at ws i * 2 + bit side
  pub small : s.code < label_end * 2

-- the way from row i on path m is the rest of path k of row r
pub record Rest (ws : List ℕ) (n r k i m : ℕ) : Type 0 where
  pub at : At ws n i m
  pub end_same : (path_at (tree ws i) m).end ≡ (path_at (tree ws r) k).end

-- .. and says the same of the row x
pub record RestOver (ws : List ℕ) (n x r k i m : ℕ) : Type 0 where
  pub at : At ws n i m
  pub same : (b : Bool) → through (tree ws x) b (path_at (tree ws i) m) ≡ through (tree ws x) b (path_at (tree ws r) k)

-- the first j literals stand from place `first` on, those of row i on path m are still to come
pub record Coming (ws : List ℕ) (n r k : ℕ) (out₀ out : List ℕ) (first i m j : ℕ) : Type 0 where
  pub at : At ws n i m
  pub so_far : take j (drop first out) ++ codes (path_at (tree ws i) m) ≡ codes (path_at (tree ws r) k)
  pub length-kept : length out ≡ length out₀
  pub kept : (t : ℕ) → t < first → get_or out t 0 ≡ get_or out₀ t 0
