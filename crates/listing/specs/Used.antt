-- The terms that a listing uses (document 01, section 'Combination': used variables, closing up, apart).
use Rattle.std.specs.Prelude.{◌≡◌, Bool, false, ◌||◌, cond, List, [], ◌∷◌, ℕ, zero, suc, ◌+◌, ◌<◌, length, get_or, set, eqb}
use Rattle.basics.specs.Members.{mem}
use Rattle.label.specs.Limits.{leaf_mark, term_end, first_variable, variable_count, first_minimum, minimum_count}
use Rattle.label.specs.Labels.{terms_of, unpacked}
use Rattle.diagram.specs.Diagram.{Diagram}
use Rattle.diagram.specs.Words.{label_at, row_count}
use Rattle.diagram.specs.Validity.{Valid}
use Rattle.diagram.specs.Variables.{occurs}

-- the terms of row i's label, none for a leaf
unfoldable pub row_terms : List ℕ → List ℕ → ℕ → List ℕ
row_terms ar ws i = cond (eqb (label_at ws i) leaf_mark) [] (terms_of ar (unpacked (label_at ws i)))

-- t is a term of one of the first n rows
unfoldable pub mentioned : List ℕ → List ℕ → ℕ → ℕ → Bool
unfolding row_terms
mentioned ar ws zero t = false
mentioned ar ws (suc n) t = mentioned ar ws n t || mem eqb t (row_terms ar ws n)

-- the marks ms with those of the terms ts set to 1
abbrev pub marked : List ℕ → List ℕ → List ℕ
marked [] ms = ms
marked (t ∷ ts) ms = marked ts (set ms t 1)

-- a mark for each term: 1 if it occurs in d, 0 if not
pub record Used (ar : List ℕ) (d : Diagram) (ms : List ℕ) : Type 0 where
  pub whole : length ms ≡ term_end
  pub each : (t : ℕ) → t < term_end → get_or ms t 0 ≡ cond (occurs ar t d) 1 0

-- how many of the n marks from t on are set
unfoldable pub set_from : List ℕ → ℕ → ℕ → ℕ
set_from ms t zero = 0
set_from ms t (suc n) = cond (eqb (get_or ms t 0) 0) 0 1 + set_from ms (suc t) n

-- how many marks of variables are set
unfoldable pub marked_variables : List ℕ → ℕ
unfolding set_from
marked_variables ms = set_from ms first_variable variable_count

-- how many marks of minimum variables are set
unfoldable pub marked_minimums : List ℕ → ℕ
unfolding set_from
marked_minimums ms = set_from ms first_minimum minimum_count

-- what marking a row requires
pub record Markable (ar ws ms : List ℕ) (i : ℕ) : Type 0 where
  pub valid : Valid ar ws
  pub row : i < row_count ws
  pub whole : length ms ≡ term_end
