-- Ground facts by their numbers, and the rows of a choice: what the code's contracts need.
use Rattle.std.specs.Prelude.{◌≡◌, true, cond, List, [], ◌∷◌, ◌++◌, ℕ, zero, suc, ◌+◌, ◌*◌, ◌/◌, ◌%◌, ◌^◌, ◌≤◌, ◌<◌, length, take, drop, eqb}
use Rattle.label.specs.Limits.{predicate_count, most_places}
use Rattle.label.specs.Labels.{are_arities}
use Rattle.state.specs.Lent.{fact_words, most_objects}
use Rattle.spread.specs.Ground.{Ground, ground, rows_of}

-- ===== Powers =====

-- 64 to the power 6
abbrev pub most_power : ℕ
most_power = 68719476736

pub record Power (n k : ℕ) : Type 0 where
  pub some : 0 < n
  pub few : n ^ k ≤ most_power

-- ===== Ground facts =====

-- the tuple of k objects below n with the number t: its digits, the highest first
unfoldable pub digits : ℕ → ℕ → ℕ → List ℕ
digits n zero t = []
digits n (suc k) t = digits n k (t / n) ++ (t % n ∷ [])

-- the first m facts of predicate p, which has k places
unfoldable pub first_facts : ℕ → ℕ → ℕ → ℕ → List Ground
unfolding digits
first_facts n p k zero = []
first_facts n p k (suc m) = first_facts n p k m ++ (ground p (digits n k m) ∷ [])

-- the declared predicates are 1 to count
pub record Declared (ar : List ℕ) (count n : ℕ) : Type 0 where
  pub arities : are_arities ar ≡ true
  pub few : count < predicate_count
  pub some : 0 < n
  pub most : n ≤ most_objects

-- room for the digits of a tuple behind the row's first word
pub record Fillable (row : List ℕ) (n k : ℕ) : Type 0 where
  pub words : length row ≡ fact_words
  pub some : 0 < n
  pub most : k ≤ most_places

-- room for m rows behind the first `at` ones
pub record Writable (rows : List ℕ) (at n k m : ℕ) : Type 0 where
  pub some : 0 < n
  pub most : k ≤ most_places
  pub room : (at + m) * fact_words ≤ length rows

-- behind the first `at` rows those of the facts fs
abbrev pub Follow : List ℕ → ℕ → List Ground → ℕ → List ℕ → Type 0
Follow rows at fs m rows' = take ((at + m) * fact_words) rows' ≡ take (at * fact_words) rows ++ rows_of fs

-- ===== The rows of a choice =====

-- of the first g rows those whose bit is 1, the lowest bit for the first
unfoldable pub picked : List ℕ → ℕ → ℕ → List ℕ
picked rows zero c = []
picked rows (suc g) c = cond (eqb (c % 2) 1) (take fact_words rows) [] ++ picked (drop fact_words rows) g (c / 2)

pub record Choosing (rows facts : List ℕ) (g : ℕ) : Type 0 where
  pub rows-there : g * fact_words ≤ length rows
  pub room : g * fact_words ≤ length facts

pub record Chosen (rows : List ℕ) (g c r : ℕ) (facts : List ℕ) : Type 0 where
  pub most : r ≤ length facts
  pub words : take r facts ≡ picked rows g c
