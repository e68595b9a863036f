-- What the inner functions of freeing take and give (document 01, section 'Regression').
use Rattle.std.specs.Prelude.{◌≡◌, Bool, true, false, not, ◌||◌, List, ℕ, zero, suc, ◌≤◌, length, get_or, eqb}
use Rattle.refusal.specs.Outcome.{Outcome}
use Rattle.label.specs.Limits.{parameter_count}
use Rattle.diagram.specs.Diagram.{Diagram}
use Rattle.diagram.specs.Words.{is_listing}
use Rattle.regression.specs.RegressCall.{written_as, freed_as}
use Rattle.refusal.specs.declared.Refusal.{Refusal}
use Rattle.std.specs.Prelude.{Result}

-- one of the n marks from t on is set
unfoldable pub any_set : List ℕ → ℕ → ℕ → Bool
any_set ms t zero = false
any_set ms t (suc n) = not (eqb (get_or ms t 0) 0) || any_set ms (suc t) n

-- a listing, a parameter count, and room for the result
pub record FreeTask (ar words : List ℕ) (count : ℕ) (out : List ℕ) : Type 0 where
  pub listing : is_listing ar words ≡ true
  pub few : count ≤ parameter_count
  pub room : length words ≤ length out

-- the answer o, and the result buffer that was `before` and is `after`
pub record FreedWith (o : Outcome Diagram) (r : Result ℕ Refusal) (before after : List ℕ) : Type 0 where
  pub answer : r ≡ freed_as o
  pub result : after ≡ written_as o before
