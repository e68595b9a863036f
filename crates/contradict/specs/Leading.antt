-- Where the paths of a listing lead, as the code finds it: path by path.
use Rattle.std.specs.Prelude.{◌≡◌, true, cond, List, ℕ, ◌-◌, ◌≤◌, length, ltb}
use Rattle.diagram.specs.Diagram.{Diagram}
use Rattle.diagram.specs.Words.{row_count, is_listing}
use Rattle.diagram.specs.Validity.{tree}
use Rattle.paths.specs.Paths.{paths, most_paths}
use Rattle.paths.specs.Inner.{Rows, Counted, At}
use Rattle.contradiction.specs.Contradiction.{leads_to}
use Rattle.contradict.specs.declared.Led.{Led}
use Rattle.contradict.specs.declared.Led.TheVariants.{Only, Others, Many}

-- what the call answers of a diagram: over 256 paths, those to w included; then whether it leads to w
unfoldable pub lead_answer : List ℕ → ℕ → Diagram → Led
unfolding leads_to paths
lead_answer ar w d = cond (ltb most_paths (length (paths d))) Many (cond (leads_to ar w d) Only Others)

-- a listing with its counts of paths
pub record Mapped (ar ws counts : List ℕ) (n : ℕ) : Type 0 where
  pub listed : is_listing ar ws ≡ true
  pub whole : n ≡ row_count ws
  pub rows : Rows ws n
  pub counted : Counted ws counts n

-- path k of it
pub record Route (ar ws counts : List ℕ) (n k : ℕ) : Type 0 where
  pub mapped : Mapped ar ws counts n
  pub path : At ws n (n - 1) k

-- it has m paths, at most 256
pub record Routed (ar ws counts : List ℕ) (n m : ℕ) : Type 0 where
  pub mapped : Mapped ar ws counts n
  pub some : 1 ≤ n
  pub all : length (paths (tree ws (n - 1))) ≡ m
  pub few : m ≤ most_paths
