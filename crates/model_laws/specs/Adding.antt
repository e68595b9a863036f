-- Weights that pass at (start), in document 02's words (L5).
use Rattle.std.specs.Prelude.{◌≡◌, List, ◌∷◌, ℕ, ◌≤◌, length}
use Rattle.refusal.specs.declared.Refusal.TheVariants.{Weights}
use Rattle.refusal.specs.Outcome.{ok, refused}
use Rattle.diagram.specs.Diagram.{Diagram, leaf}
use Rattle.state.specs.State.{State}
use Rattle.state.specs.Max.{sum_of}
use Rattle.paths.specs.Paths.{paths, most_paths}
use Rattle.contradiction.specs.Contradiction.{LeadsTo}
use Rattle.mdp.specs.Model.{Action, Every}
use Rattle.mdp.specs.Bellman.{weight_in}
use Rattle.session.specs.ModelLines.{weights_sum, weighed}

-- the weights of an action's variants, read in a state with a tuple for the parameters, add up to w: over W they are probabilities
abbrev pub AddsUp : List ℕ → ℕ → Action → Type 0
AddsUp ar w a = (s : State) (os : List ℕ) → sum_of a.variants (weight_in ar s os) ≡ w

-- d is the sum of the action's weights, and has at most 256 paths
pub record WeightSum (ar : List ℕ) (a : Action) (d : Diagram) : Type 0 where
  pub is : weights_sum ar (leaf 0) a.variants ≡ ok d
  pub few : length (paths d) ≤ most_paths

-- "every path of the summed weights that has a leaf other than W contradicts itself by equality"
pub record PassesRule (ar : List ℕ) (w : ℕ) (a : Action) : Type 0 where
  pub diagram : Diagram
  pub sum : WeightSum ar a diagram
  pub leads : LeadsTo ar w diagram

-- "Number 13 is given in all other cases": a path of an action's summed weights does not, and the actions before it pass
pub data FailsRule (ar : List ℕ) (w : ℕ) : List Action → Type 0 where
  here : {a : Action} {l : List Action} (d : Diagram) → WeightSum ar a d → (LeadsTo ar w d → ⊥) → FailsRule ar w (a ∷ l)
  behind : {a : Action} {l : List Action} → PassesRule ar w a → FailsRule ar w l → FailsRule ar w (a ∷ l)

-- the weights of the actions are accepted exactly if each action passes, and refused with 13 exactly if one fails
pub record IsWeighed (ar : List ℕ) (w : ℕ) (l : List Action) : Type 0 where
  pub accepted : weighed ar w l ≡ ok tt → Every (PassesRule ar w) l
  pub accepts : Every (PassesRule ar w) l → weighed ar w l ≡ ok tt
  pub failed : weighed ar w l ≡ refused Weights → FailsRule ar w l
  pub fails : FailsRule ar w l → weighed ar w l ≡ refused Weights
