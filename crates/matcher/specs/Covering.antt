-- A path that others are asked to cover, and what a test answers (document 01, section 'Cut'; without minimum variables, document 02, L12).
use Rattle.std.specs.Prelude.{◌≡◌, Bool, List, ℕ, ◌+◌, ◌≤◌, length, take}
use Rattle.label.specs.Limits.{first_minimum}
use Rattle.paths.specs.Paths.{Path}
use Rattle.cutting.specs.Cut.{covers}
use Rattle.cutting.specs.Searchable.{PathLabels}
use Rattle.matcher.specs.Search.{Sorted}
use Rattle.matcher.specs.Stored.{Stored}
use Rattle.matcher.specs.Parts.{kind_count, Kinds}

-- a literals stand in order behind marks, and there is room for marks of their kinds
pub record Target (into : List ℕ) (a : ℕ) (kinds : List ℕ) : Type 0 where
  pub room : first_minimum + a ≤ length into
  pub sorted : Sorted (take (first_minimum + a) into)
  pub kind-room : kind_count ≤ length kinds

-- they are those of the path p: its terms and its literals' kinds are marked
pub record Held (ar : List ℕ) (p : Path) (into : List ℕ) (a : ℕ) (kinds : List ℕ) : Type 0 where
  pub target : Target into a kinds
  pub labels : PathLabels ar p
  pub stored : Stored ar p into a
  pub marked : Kinds (take (first_minimum + a) into) kinds (length (take (first_minimum + a) into))

-- whether the path q covers the path that is held
pub record Covering (ar into : List ℕ) (a : ℕ) (kinds : List ℕ) (q : Path) (r : Bool) : Type 0 where
  pub each : (p : Path) → Held ar p into a kinds → r ≡ covers ar p q
