-- Diagrams with no parameter past a count (document 01, section 'Regression': a truth diagram has the action's parameters), and truth diagrams that pass
-- the checks of a call.
use Rattle.std.specs.Prelude.{◌≡◌, true, List, ℕ, ◌+◌, ◌≤◌, ◌<◌}
use Rattle.std.proofs.Math.Option.{some}
use Rattle.label.specs.Limits.{first_parameter, first_variable, predicate_count}
use Rattle.label.specs.Labels.{is_label}
use Rattle.diagram.specs.Diagram.{Tree, Diagram, EveryLabel}
use Rattle.state.specs.State.{Atomic, meaning}
use Rattle.state.specs.Terms.{Terms}
use Rattle.regression.specs.Regression.{Truths}
use Rattle.regression.specs.Result.{AtMost}

-- the term t is no parameter from the c-th on
abbrev pub Allowed : ℕ → ℕ → Type 0
Allowed c t = first_parameter + c ≤ t → first_variable ≤ t

pub record Within (c : ℕ) (d : Tree Atomic) : Type 0 where
  pub terms : Terms (Allowed c) d

-- every label of d is one under the arity list
abbrev pub Labels : List ℕ → Diagram → Type 0
Labels ar d = EveryLabel (λ l. is_label ar l ≡ true) d

-- leaves 0 and 1, labels in their range
pub record GoodTruth (ar : List ℕ) (d : Diagram) : Type 0 where
  pub labels : Labels ar d
  pub bits : AtMost 1 d

-- those of the predicates that labels have, but equality
pub record GoodTruths (ar : List ℕ) (truths : Truths) : Type 0 where
  pub each : (p : ℕ) (d : Diagram) → 0 < p → p < predicate_count → truths p ≡ some d → GoodTruth ar d

-- no truth diagram has a parameter from the c-th on
pub record WithinTruths (c : ℕ) (ar : List ℕ) (truths : Truths) : Type 0 where
  pub each : (p : ℕ) (d : Diagram) → 0 < p → p < predicate_count → truths p ≡ some d → Within c (meaning ar d)
