-- What contracts of inner functions and proofs cite. Nothing here has to be believed.
use Rattle.std.specs.Prelude.{◌≡◌, List, ℕ, ◌≤◌}
use Rattle.diagram.specs.Diagram.{Tree}
use Rattle.state.specs.State.{Atomic, State, value, Fits}

-- x is the highest value of f on P: attained, and nothing above
pub record IsMax {X : Type 0} (P : X → Type 0) (f : X → ℕ) (x : ℕ) : Type 0 where
  pub point : X
  pub inside : P point
  pub value : f point ≡ x
  pub bound : (a : X) → P a → f a ≤ x

-- each value of f on P is met or passed by a value of g on Q
abbrev pub Below : {X Y : Type 0} (P : X → Type 0) (f : X → ℕ) (Q : Y → Type 0) (g : Y → ℕ) → Type 0
Below {X} {Y} P f Q g = (a : X) → P a → (b : Y) × Q b × (f a ≤ g b)

-- x is the highest leaf of d over all valuations of s, with the objects os for the parameters: attained, and nothing above
abbrev pub Highest : State → List ℕ → Tree Atomic → ℕ → Type 0
Highest s os d x = IsMax (Fits s os) (value s d) x
