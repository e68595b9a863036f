-- Literals as numbers, and the table of representatives that the code makes.
use Rattle.std.specs.Prelude.{◌≡◌, true, List, ℕ, ◌/◌, ◌≤◌, ◌<◌, length, get_or, drop}
use Rattle.label.specs.Limits.{term_end}
use Rattle.label.specs.Labels.{are_arities, is_label}
use Rattle.label.specs.Inner.{map_of}
use Rattle.label.specs.Callers.{TermMap}
use Rattle.paths.specs.Inner.{literal_at, literals_in}
use Rattle.contradiction.specs.Contradiction.{joining, join_literal, representative}

-- the first n terms are their own representatives
pub record Own (table₀ table : List ℕ) (n : ℕ) : Type 0 where
  pub kept : length table ≡ length table₀
  pub within : n ≤ term_end
  pub each : (x : ℕ) → x < n → get_or table x 0 ≡ x

-- of the first n terms, what had the representative of t has that of u; the others as they were
pub record Merged (table₀ : List ℕ) (t u : ℕ) (table : List ℕ) (n : ℕ) : Type 0 where
  pub kept : length table ≡ length table₀
  pub within : n ≤ term_end
  pub each : (x : ℕ) → x < n → get_or table x 0 ≡ joining t u (map_of table₀) x
  pub rest : (x : ℕ) → n ≤ x → get_or table x 0 ≡ get_or table₀ x 0

-- the literal x is taken in
pub record Taken (x : ℕ) (table₀ table : List ℕ) : Type 0 where
  pub kept : length table ≡ length table₀
  pub each : (ar : List ℕ) → are_arities ar ≡ true → (t : ℕ) → t < term_end → get_or table t 0 ≡ join_literal ar (literal_at x) (map_of table₀) t

-- the literals from number j on are taken in
pub record Represented (xs : List ℕ) (j : ℕ) (table : List ℕ) : Type 0 where
  pub each : (ar : List ℕ) → are_arities ar ≡ true → (t : ℕ) → t < term_end → get_or table t 0 ≡ representative ar (literals_in (drop j xs)) t

-- the numbers stand for literals with labels
pub record Labelled (ar xs : List ℕ) : Type 0 where
  pub arities : are_arities ar ≡ true
  pub labels : (j : ℕ) → j < length xs → is_label ar (get_or xs j 0 / 2) ≡ true

-- .. and the table has a term for each term
pub record Readable (ar xs table : List ℕ) : Type 0 where
  pub labelled : Labelled ar xs
  pub terms : TermMap table
