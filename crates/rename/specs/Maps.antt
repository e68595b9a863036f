-- Maps of terms as the calls write them (document 01, sections 'Combination' and 'Regression'; kind by kind, document 02, L12).
use Rattle.std.specs.Prelude.{◌≡◌, Bool, not, cond, List, [], ◌∷◌, ◌++◌, ℕ, zero, suc, ◌<◌, ◌≤◌, length, get_or, eqb, ltb}
use Rattle.label.specs.Limits.{first_variable, variable_count, first_minimum, minimum_count, term_end}
use Rattle.label.specs.Renamings.{numbering}
use Rattle.diagram.specs.Diagram.{Diagram}
use Rattle.diagram.specs.Variables.{occurs}

-- f 0, f 1, .., f (n - 1)
unfoldable pub tabled : (ℕ → ℕ) → ℕ → List ℕ
tabled f zero = []
tabled f (suc n) = tabled f n ++ (f n ∷ [])

-- the term t is marked
unfoldable pub is_used : List ℕ → ℕ → Bool
is_used used t = not (eqb (get_or used t 0) 0)

-- those of the n terms from t on that are marked, ascending
unfoldable pub used_from : List ℕ → ℕ → ℕ → List ℕ
used_from used t zero = []
used_from used t (suc n) = cond (is_used used t) (t ∷ used_from used (suc t) n) (used_from used (suc t) n)

-- the marked variables, ascending
unfoldable pub used_variables : List ℕ → List ℕ
unfolding used_from is_used
used_variables used = used_from used first_variable variable_count

-- the marked minimum variables, ascending
unfoldable pub used_minimums : List ℕ → List ℕ
unfolding used_from is_used
used_minimums used = used_from used first_minimum minimum_count

-- the words mark the terms of d, each with 1
pub record Marks (ar : List ℕ) (d : Diagram) (used : List ℕ) : Type 0 where
  pub whole : term_end ≤ length used
  pub mark : (t : ℕ) → t < term_end → get_or used t 0 ≡ cond (occurs ar t d) 1 0

-- closing up: constants and parameters stay, a used variable of either kind has its number; an unused one, which no label has, 0
unfoldable pub close_at : List ℕ → ℕ → ℕ → ℕ → ℕ
close_at used first minimum t = cond (ltb t first_variable) t (cond (is_used used t) (numbering (used_variables used) (used_minimums used) first minimum t) 0)
