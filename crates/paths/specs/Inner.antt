-- What contracts of inner functions and proofs cite. Nothing here has to be believed.
use Rattle.std.specs.Prelude.{◌≡◌, Bool, true, false, List, map, ℕ, suc, ◌+◌, ◌-◌, ◌*◌, ◌/◌, ◌%◌, ◌≤◌, ◌<◌, min, length, get_or, take, drop, eqb}
use Rattle.label.specs.Limits.{predicate_count, most_places, predicate_weight, leaf_mark}
use Rattle.label.specs.Labels.{predicate_of, place_at}
use Rattle.diagram.specs.Diagram.{Diagram}
use Rattle.diagram.specs.Words.{label_at}
use Rattle.diagram.specs.Validity.{tree}
use Rattle.diagram.specs.Shown.{Shown}
use Rattle.paths.specs.Paths.{most_paths, Literal, Path, paths, literals, through}
use Rattle.paths.specs.Routes.{path_at}

-- a literal as a number: its label twice, and one more where it is true
abbrev pub bit : Bool → ℕ
bit true = 1
bit false = 0

unfoldable pub code_of : Literal → ℕ
code_of l = l.label * 2 + bit l.sign

unfoldable pub codes : Path → List ℕ
unfolding code_of literals
codes p = map code_of (literals p)

-- the literal that a number stands for
unfoldable pub literal_at : ℕ → Literal
literal_at x = record { label = x / 2; sign = eqb (x % 2) 1 }

unfoldable pub literals_in : List ℕ → List Literal
literals_in xs = map literal_at xs

-- the label l has the number of a predicate, and in its places numbers below e
pub record InRange (e l : ℕ) : Type 0 where
  pub predicate : predicate_of l < predicate_count
  pub places : (k : ℕ) → k < most_places → place_at l k < e

-- so has each literal's label
pub record AllInRange (e : ℕ) (xs : List ℕ) : Type 0 where
  pub each : (i : ℕ) → i < length xs → InRange e (get_or xs i 0 / 2)

-- labels are below this
abbrev pub label_end : ℕ
label_end = predicate_count * predicate_weight

-- the n rows of words, and the diagram of each
pub record Rows (ws : List ℕ) (n : ℕ) : Type 0 where
  pub room : n * 3 ≤ length ws
  pub few : n ≤ 1024
  pub shown : Shown ws n (tree ws)
  pub labels : (i : ℕ) → i < n → (label_at ws i ≡ leaf_mark → ⊥) → label_at ws i < label_end

-- how many paths each of the first m rows has; over 256 it says 257
pub record Counted (ws counts : List ℕ) (m : ℕ) : Type 0 where
  pub room : m ≤ length counts
  pub each : (i : ℕ) → i < m → get_or counts i 0 ≡ min (suc most_paths) (length (paths (tree ws i)))

-- row i has at most 256 paths, and k is one of them
pub record At (ws : List ℕ) (n i k : ℕ) : Type 0 where
  pub row : i < n
  pub path : k < length (paths (tree ws i))
  pub few : length (paths (tree ws i)) ≤ most_paths

-- n rows with their counts of paths; the last has m, at most 256
pub record Routed (ws counts : List ℕ) (n m : ℕ) : Type 0 where
  pub rows : Rows ws n
  pub some : 1 ≤ n
  pub counted : Counted ws counts n
  pub all : length (paths (tree ws (n - 1))) ≡ m
  pub few : m ≤ most_paths

-- the leaves of the first m paths
pub record Leaves (ws leaves : List ℕ) (n m : ℕ) : Type 0 where
  pub places : m ≤ length leaves
  pub each : (p : ℕ) → p < m → get_or leaves p 0 ≡ (path_at (tree ws (n - 1)) p).end

-- where a path goes through the row r: 1 by its true edge, 2 by its false edge, 0 not at all
pub record Sided (r : Diagram) (p : Path) (s : ℕ) : Type 0 where
  pub on-true : through r true p ≡ eqb s 1
  pub on-false : through r false p ≡ eqb s 2

-- the j literals of path k of row r stand from place `first` on, and what is before it stays
pub record Entered (ws : List ℕ) (r k : ℕ) (out₀ out : List ℕ) (first j : ℕ) : Type 0 where
  pub are : take j (drop first out) ≡ codes (path_at (tree ws r) k)
  pub few : j < most_paths
  pub kept : (t : ℕ) → t < first → get_or out t 0 ≡ get_or out₀ t 0
