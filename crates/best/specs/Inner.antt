-- What contracts of inner functions and proofs cite. Nothing here has to be believed.
use Rattle.std.specs.Prelude.{◌≡◌, ◌⊎◌, true, false, List, ◌∷◌, ℕ, ◌≤◌}
use Rattle.refusal.specs.declared.Refusal.{Refusal}
use Rattle.refusal.specs.declared.Refusal.TheVariants.{Valuations}
use Rattle.refusal.specs.Numbers.{number_of}
use Rattle.refusal.specs.Outcome.{Outcome, ok, refused}
use Rattle.diagram.specs.Diagram.{Diagram, leaf}
use Rattle.diagram.specs.Listing.{listing}
use Rattle.state.specs.State.{State}
use Rattle.state.specs.Max.{Tuple}
use Rattle.elimination.specs.Answer.{is_too_large}
use Rattle.mdp.specs.Model.{Action, Model}
use Rattle.mdp.specs.Backup.{variants_sum}

-- ===== What refuses (best) =====

-- the calls of an action's regressed sum
abbrev pub sum_calls : Model → Diagram → Action → Outcome Diagram
sum_calls m d a = variants_sum m.arities m.numerator d (leaf 0) a.variants

-- these calls are all accepted
pub record HasSum (m : Model) (d : Diagram) (a : Action) : Type 0 where
  pub sum : Diagram
  pub calls : sum_calls m d a ≡ ok sum

-- an action passes: its calls are accepted, and no binding meets 15
pub record Passes (m : Model) (s : State) (d : Diagram) (a : Action) : Type 0 where
  pub sum : Diagram
  pub calls : sum_calls m d a ≡ ok sum
  pub bindings : (os : List ℕ) → Tuple s.size a.count os → is_too_large m.arities s os (listing sum) ≡ false

-- an action stops with a refusal: that of its calls, or behind accepted calls 15 of a binding
pub data Stops (m : Model) (s : State) (d : Diagram) (a : Action) : Refusal → Type 0 where
  in-calls : {r : Refusal} → sum_calls m d a ≡ refused r → Stops m s d a r
  in-binding : {q : Diagram} {os : List ℕ} → sum_calls m d a ≡ ok q → Tuple s.size a.count os → is_too_large m.arities s os (listing q) ≡ true → Stops m s d a Valuations

-- the first action that does not pass stops with it
pub data Stopped (m : Model) (s : State) (d : Diagram) : List Action → Refusal → Type 0 where
  here : {a : Action} {l : List Action} {r : Refusal} → Stops m s d a r → Stopped m s d (a ∷ l) r
  later : {a : Action} {l : List Action} {r : Refusal} → Passes m s d a → Stopped m s d l r → Stopped m s d (a ∷ l) r

-- whatever refuses an outcome has P
pub record Refuses {A : Type 0} (P : Refusal → Type 0) (o : Outcome A) : Type 0 where
  pub given : (r : Refusal) → o ≡ refused r → P r

-- a number of the calls: 8, 9, 10 or 11
abbrev pub OfCall : Refusal → Type 0
OfCall r = (8 ≤ number_of r) × (number_of r ≤ 11)

-- one of 8, 9, 10 and 11, or 15
abbrev pub OfBest : Refusal → Type 0
OfBest r = OfCall r ⊎ (r ≡ Valuations)
