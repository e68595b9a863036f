-- What contracts of inner functions and proofs cite. Nothing here has to be believed.
use Rattle.std.specs.Prelude.{◌⊎◌, Bool, true, ◌&&◌, ◌||◌, cond, false, List, ◌≡◌, ℕ, ◌+◌, ◌≤◌, ◌<◌, get_or, eqb, ltb}
use Rattle.basics.specs.Members.{mem}
use Rattle.label.specs.Limits.{leaf_mark, first_parameter, first_variable, first_minimum}
use Rattle.label.specs.Terms.{is_term}
use Rattle.label.specs.Labels.{are_arities, is_label}
use Rattle.label.specs.Order.{label_before}

-- ar is an arity list, and l a label under it
unfoldable pub is_label_under : List ℕ → ℕ → Bool
is_label_under ar l = are_arities ar && is_label ar l

-- a row's first word is a leaf's mark or a label
abbrev pub is_first_word : List ℕ → ℕ → Bool
is_first_word ar w = eqb w leaf_mark || is_label ar w

-- first words in the order of labels, a leaf after every label
abbrev pub word_before : List ℕ → ℕ → ℕ → Bool
word_before ar w v = cond (eqb w leaf_mark) false (cond (eqb v leaf_mark) true (label_before ar w v))

-- what the comparison of two words answers: for first words of rows under one arity list their order, for any two words that of the numbers
pub record Compared (w v : ℕ) (r : Bool) : Type 0 where
  pub ordered : (ar : List ℕ) → is_first_word ar w ≡ true → is_first_word ar v ≡ true → r ≡ word_before ar w v
  pub numbers : r ≡ ltb w v

-- a map of terms as a lent list of words
abbrev pub map_of : List ℕ → ℕ → ℕ
map_of ws t = get_or ws t 0

-- ρ turns the terms that P names into terms and keeps their order
pub record Increasing (P : ℕ → Type 0) (ρ : ℕ → ℕ) : Type 0 where
  pub terms : (t : ℕ) → P t → is_term (ρ t) ≡ true
  pub order : (t u : ℕ) → P t → P u → t < u → ρ t < ρ u

-- closing up and moving apart: what is no variable, the variables us, the minimum variables vs
abbrev pub Numbered : List ℕ → List ℕ → ℕ → Type 0
Numbered us vs t = (is_term t ≡ true) × ((t < first_variable) ⊎ (((t < first_minimum) × (mem eqb t us ≡ true)) ⊎ ((first_minimum ≤ t) × (mem eqb t vs ≡ true))))

-- freeing: constants, the action's parameters, the variables that stay below the minimum variables, and these
abbrev pub Freed : ℕ → ℕ → Type 0
Freed c t = (is_term t ≡ true) × ((t < first_parameter + c) ⊎ ((first_variable ≤ t) × (t < first_minimum → t + c < first_minimum)))
