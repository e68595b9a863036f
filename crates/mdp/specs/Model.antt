-- Models, and what reading one establishes (document 01, sections 'Text', 'Regression' and 'Backup').
use Rattle.std.specs.Prelude.{◌≡◌, true, List, [], ◌∷◌, ℕ, ◌+◌, ◌*◌, ◌≤◌, ◌<◌, length, get_or}
use Rattle.std.proofs.Math.Option.{some}
use Rattle.label.specs.Limits.{first_parameter, parameter_count, first_variable, predicate_count}
use Rattle.label.specs.Labels.{are_arities}
use Rattle.diagram.specs.Diagram.{Diagram}
use Rattle.diagram.specs.Listing.{Good}
use Rattle.diagram.specs.Variables.{closed}
use Rattle.state.specs.State.{meaning}
use Rattle.state.specs.Terms.{Terms}
use Rattle.regression.specs.Regression.{Truths}
use Rattle.regression.specs.Result.{AtMost}
use Rattle.regression.specs.Parameters.{Within}

-- (total W) 1 to 1,000,000; (discount G D), D 1 to 1,000,000, G 0 to D; 8 actions; 8 variants each
abbrev pub most_total : ℕ
most_total = 1000000

abbrev pub most_denominator : ℕ
most_denominator = 1000000

abbrev pub most_actions : ℕ
most_actions = 8

abbrev pub most_variants : ℕ
most_variants = 8

-- a variant: its weight, and its truth diagrams by predicate
pub record Variant : Type 0 where
  pub weight : Diagram
  pub truths : Truths

-- an action: how many parameters it has, and its variants in order
pub record Action : Type 0 where
  pub count : ℕ
  pub variants : List Variant

-- a model: the arity list, W, the discount G / D, the reward as read, closed up, and the actions in order
pub record Model : Type 0 where
  pub arities : List ℕ
  pub total : ℕ
  pub numerator : ℕ
  pub denominator : ℕ
  pub reward : Diagram
  pub actions : List Action

-- S = W · D
unfoldable pub scale : Model → ℕ
scale m = m.total * m.denominator

-- ===== What reading a model establishes =====

-- P holds of each of the list
abbrev pub Every : {A : Type 0} → (A → Type 0) → List A → Type 0
Every P [] = Unit {0}
Every P (a ∷ l) = P a × Every P l

-- a truth diagram of a predicate of n places, of an action with c parameters: leaves 0 and 1, the arguments, the first variable onward, and no other variable of either
-- kind, and the action's parameters only
pub record GoodTruthDiagram (ar : List ℕ) (c n : ℕ) (d : Diagram) : Type 0 where
  pub listed : Good ar d
  pub bits : AtMost 1 d
  pub parameters : Within c (meaning ar d)
  pub arguments : Terms (λ t. t < first_variable + n) (meaning ar d)

-- a weight has no variable and the action's parameters only
pub record GoodVariant (ar : List ℕ) (c : ℕ) (v : Variant) : Type 0 where
  pub listed : Good ar v.weight
  pub weight : Terms (λ t. t < first_parameter + c) (meaning ar v.weight)
  pub truths : (p : ℕ) (d : Diagram) → 0 < p → p < predicate_count → v.truths p ≡ some d → GoodTruthDiagram ar c (get_or ar p 0) d

pub record GoodAction (ar : List ℕ) (a : Action) : Type 0 where
  pub few : a.count ≤ parameter_count
  pub variants-few : length a.variants ≤ most_variants
  pub variants : Every (GoodVariant ar a.count) a.variants

-- no parameter in the reward; it may have variables of both kinds. That an action's weights add up to W (13) plays no part in what follows.
pub record GoodModel (m : Model) : Type 0 where
  pub arities : are_arities m.arities ≡ true
  pub total-some : 1 ≤ m.total
  pub total-few : m.total ≤ most_total
  pub denominator-some : 1 ≤ m.denominator
  pub denominator-few : m.denominator ≤ most_denominator
  pub numerator-few : m.numerator ≤ m.denominator
  pub reward-listed : Good m.arities m.reward
  pub reward-closed : closed m.arities m.reward ≡ m.reward
  pub reward : Within 0 (meaning m.arities m.reward)
  pub actions-few : length m.actions ≤ most_actions
  pub actions : Every (GoodAction m.arities) m.actions
