-- What the loops of this crate keep.
use Rattle.std.specs.Prelude.{◌≡◌, cond, List, ◌++◌, ℕ, suc, ◌+◌, ◌≤◌, ◌<◌, length, take, drop, ltb}
use Rattle.label.specs.Limits.{first_minimum, term_end}
use Rattle.label.specs.Renamings.{rank}
use Rattle.rename.specs.Maps.{tabled, used_variables, used_minimums}

-- the number of the next used variable from t on, of the kind that t has come to
unfoldable pub number_at : List ℕ → ℕ → ℕ → ℕ → ℕ
number_at used first minimum t = cond (ltb t first_minimum) (first + rank (used_variables used) t) (minimum + rank (used_minimums used) t)

unfoldable pub number_after : List ℕ → ℕ → ℕ → ℕ → ℕ
unfolding number_at
number_after used first minimum t = number_at used first minimum (suc t)

-- the term t is reached, and `next` is the number of the next used variable
pub record Numbering (used : List ℕ) (first minimum t next : ℕ) : Type 0 where
  pub marks : term_end ≤ length used
  pub room : first + length (used_variables used) ≤ first_minimum
  pub space : minimum + length (used_minimums used) ≤ term_end
  pub inside : t < term_end
  pub number : next ≡ number_at used first minimum t

-- the first n words are those of f, the others as they were
abbrev pub Filled : (ℕ → ℕ) → List ℕ → List ℕ → ℕ → Type 0
Filled f old map n = map ≡ tabled f n ++ drop n old

-- the first n words are those of `new`, the others as they were
abbrev pub Copied : List ℕ → List ℕ → List ℕ → ℕ → Type 0
Copied new old out n = out ≡ take n new ++ drop n old
