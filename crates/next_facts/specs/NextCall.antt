-- What the facts of the next state ask for and answer (document 02, L10).
use Rattle.std.specs.Prelude.{◌≡◌, true, cond, List, ℕ, ◌+◌, ◌*◌, ◌≤◌, length, take, ltb}
use Rattle.label.specs.Labels.{are_arities}
use Rattle.state.specs.State.{State}
use Rattle.state.specs.Lent.{fact_words, fact_count, state_of, is_state, all_below, most_facts}
use Rattle.mdp.specs.Model.{GoodVariant}
use Rattle.mdp.specs.Bellman.{state_after}
use Rattle.model.specs.Inner.{LaidVariant}
use Rattle.model.specs.Layout.{variant_words, variant_at}
use Rattle.std.specs.Prelude.{None, Option, Some}

-- the next state: the variant at the place, the objects of its parameters
unfoldable pub after_at : List ℕ → List ℕ → List ℕ → ℕ → ℕ → List ℕ → List ℕ → List ℕ → State
unfolding state_after state_of variant_at
after_at ar listings table place n constants facts os = state_after ar (state_of ar n constants facts) os (variant_at listings table place)

-- a variant laid out in words with good diagrams, a state, objects of it, and room for the rows
pub record Moving (ar listings table : List ℕ) (place n : ℕ) (constants facts os out : List ℕ) : Type 0 where
  pub arities : are_arities ar ≡ true
  pub room : place + variant_words ≤ length table
  pub laid : LaidVariant ar listings table place
  pub parameters : ℕ
  pub good : GoodVariant ar parameters (variant_at listings table place)
  pub lent : is_state ar n constants facts ≡ true
  pub objects : all_below n os ≡ true
  pub words : most_facts * fact_words ≤ length out

-- None exactly if there are more facts than a state in hand may have
abbrev pub facts_answer : List ℕ → Option ℕ
facts_answer F = cond (ltb most_facts (fact_count F)) None (Some (fact_count F))

-- the facts F are answered and written: behind them, and where they are too many, words are free
pub record NextFacts (F : List ℕ) (r : Option ℕ) (out' : List ℕ) : Type 0 where
  pub answer : r ≡ facts_answer F
  pub written : (m : ℕ) → r ≡ Some m → take (m * fact_words) out' ≡ F
