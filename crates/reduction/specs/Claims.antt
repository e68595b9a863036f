-- What the theorems on reductions say, in types.
use Rattle.std.specs.Prelude.{◌≡◌, List, [], ◌∷◌, ℕ, ◌<◌}
use Rattle.diagram.specs.Diagram.{Diagram}
use Rattle.diagram.specs.Listing.{Good as Listed}
use Rattle.diagram.specs.Variables.{closed}
use Rattle.state.specs.State.{meaning, State, Good}
use Rattle.minimum.specs.Number.{Number}
use Rattle.regression.specs.Parameters.{Within}

-- ===== Orders =====

-- where two valuations first differ, the object of the one is lower
pub data Lower : List ℕ → List ℕ → Type 0 where
  differs : {o p : ℕ} {os ps : List ℕ} → o < p → Lower (o ∷ os) (p ∷ ps)
  onwards : {o : ℕ} {os ps : List ℕ} → Lower os ps → Lower (o ∷ os) (o ∷ ps)

-- ===== Answers =====

-- a value diagram of the values y, as backups, cuts and reductions ask for it and leave it: a listing, closed up, without parameters, with the number y in every state (document 02, L12)
pub record Values (ar : List ℕ) (y : State → ℕ) (d : Diagram) : Type 0 where
  pub listed : Listed ar d
  pub is-closed : closed ar d ≡ d
  pub within : Within 0 (meaning ar d)
  pub numbers : (s : State) → Good s → Number s [] (meaning ar d) (y s)
