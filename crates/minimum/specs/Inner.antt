-- What contracts of inner functions and proofs cite. Nothing here has to be believed.
use Rattle.std.specs.Prelude.{◌≡◌, ℕ, ◌≤◌, ◌<◌, ◌+◌}
use mathlib.Core.List.{List, Memᴰ}
use Rattle.label.specs.Limits.{first_minimum, first_variable}
use Rattle.diagram.specs.Diagram.{Tree}
use Rattle.state.specs.Inner.{IsMax}
use Rattle.state.specs.State.{Atomic, State, value, Fits}
use Rattle.state.specs.Highest.{vars}
use Rattle.state.specs.Terms.{Terms}
use Rattle.minimum.specs.Min.{IsMin}
use Rattle.minimum.specs.Number.{Under}

-- each choice of P is met by one of P' that does as well: an answer to it is met by an answer to the first that is as low
abbrev pub Met : {X Y : Type 0} (P : X → Type 0) (Q : X → X → Type 0) (f : X → ℕ) (P' : Y → Type 0) (Q' : Y → Y → Type 0) (g : Y → ℕ) → Type 0
Met {X} {Y} P Q f P' Q' g = (a : X) → P a → (a' : Y) × P' a' × ((b' : Y) → Q' a' b' → (b : X) × Q a b × (f b ≤ g b'))

-- x is the lowest leaf of d over the minimum variables, everything else being as θ has it
abbrev pub Lowest : State → List ℕ → Tree Atomic → (ℕ → ℕ) → ℕ → Type 0
Lowest s os d θ x = IsMin (Under s os θ) (value s d) x

-- the number as document 02, L12 has it: the highest of the lowest leaves that valuations have
abbrev pub HighestLowest : State → List ℕ → Tree Atomic → ℕ → Type 0
HighestLowest s os d x = IsMax {X = (ℕ → ℕ) × ℕ} (λ p. Fits s os p.0 × Lowest s os d p.0 p.1) (λ p. p.1) x

-- d has no variable; it may have parameters
abbrev pub Fixed : Tree Atomic → Type 0
Fixed d = Terms (λ t. t < first_variable) d

-- a and b are apart: no variable of either kind is one of both
pub record Disjoint (a b : Tree Atomic) : Type 0 where
  pub apart : (t : ℕ) → Memᴰ t (vars a) → Memᴰ t (vars b) → ⊥

-- u is a variable of the kind that the variable t has
pub record SameKind (t u : ℕ) : Type 0 where
  pub variable : first_variable ≤ u
  pub maximum : t < first_minimum → u < first_minimum
  pub minimum : first_minimum ≤ t → first_minimum ≤ u

-- ρ renames the variables of d kind by kind, no two to one, and leaves what is no variable
pub record KindByKind (ρ : ℕ → ℕ) (d : Tree Atomic) : Type 0 where
  pub low : (t : ℕ) → t < first_variable → ρ t ≡ t
  pub kinds : (t : ℕ) → Memᴰ t (vars d) → SameKind t (ρ t)
  pub single : (t u : ℕ) → Memᴰ t (vars d) → Memᴰ u (vars d) → ρ t ≡ ρ u → t ≡ u

-- c further maximum variables have a number each
abbrev pub Room : ℕ → Tree Atomic → Type 0
Room c d = Terms (λ t. first_variable ≤ t → t < first_minimum → t + c < first_minimum) d
