-- What a regression says of the next state (document 01, section 'Regression').
use Rattle.std.specs.Prelude.{◌≡◌, true, List, ℕ, ◌≤◌}
use Rattle.std.proofs.Math.Option.{Option, map}
use Rattle.label.specs.Limits.{first_variable}
use Rattle.diagram.specs.Diagram.{Tree, Diagram}
use Rattle.diagram.specs.Listing.{Good as Listed}
use Rattle.diagram.specs.Variables.{occurs}
use Rattle.state.specs.State.{Atomic, meaning, State, value, Fits}
use Rattle.state.specs.Next.{next}
use Rattle.regression.specs.Regression.{Truths}
use Rattle.regression.specs.Parameters.{Within, WithinTruths}

-- truth diagrams over what their labels say
abbrev pub meanings : List ℕ → Truths → ℕ → Option (Tree Atomic)
meanings ar truths p = map (meaning ar) (truths p)

-- what an accepted regression of a good diagram is
pub record Tells (ar : List ℕ) (truths : Truths) (d r : Diagram) : Type 0 where
  pub good : Listed ar r
  pub values : (s : State) (os : List ℕ) (θ : ℕ → ℕ) → Fits s os θ → value s (meaning ar r) θ ≡ value (next s os (meanings ar truths)) (meaning ar d) θ
  pub within : (c : ℕ) → WithinTruths c ar truths → Within c (meaning ar d) → Within c (meaning ar r)
  pub variables : (t : ℕ) → first_variable ≤ t → occurs ar t r ≡ true → occurs ar t d ≡ true
