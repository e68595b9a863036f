-- The number of a diagram in a state: the highest, over the maximum variables, of the lowest leaf over the minimum ones, as a relation and as a number
-- that computes (document 02, L12; it takes the place of the highest leaf wherever document 01 names that).
use Rattle.std.specs.Prelude.{◌≡◌, List, [], ◌∷◌, cond, ℕ, ◌<◌, ltb}
use Rattle.label.specs.Limits.{first_minimum}
use Rattle.diagram.specs.Diagram.{Tree}
use Rattle.state.specs.State.{Atomic, State, value, Fits}
use Rattle.state.specs.Highest.{put, max_vals, vars, start}
use Rattle.minimum.specs.Min.{IsMaxMin, min_to}

-- η gives every term but the minimum variables what θ gives it
pub record Under (s : State) (os : List ℕ) (θ η : ℕ → ℕ) : Type 0 where
  pub fits : Fits s os η
  pub same : (t : ℕ) → t < first_minimum → η t ≡ θ t

-- x is the highest of these, with the objects os for the parameters: the lowest leaf at one valuation, and at no valuation is the lowest leaf above x
abbrev pub Number : State → List ℕ → Tree Atomic → ℕ → Type 0
Number s os d x = IsMaxMin (Fits s os) (Under s os) (value s d) x

-- the lowest of f over all choices of an object below n for each variable of the list; with no variable there is one choice
unfoldable pub min_vals : ℕ → List ℕ → (ℕ → ℕ) → ((ℕ → ℕ) → ℕ) → ℕ
unfolding min_to put
min_vals n [] θ f = f θ
min_vals n (v ∷ vs) θ f = min_to n (λ o. min_vals n vs (put θ v o) f)

-- the numbers of a list that are below m, and those from m on
unfoldable pub below : ℕ → List ℕ → List ℕ
below m [] = []
below m (v ∷ vs) = cond (ltb v m) (v ∷ below m vs) (below m vs)

unfoldable pub from : ℕ → List ℕ → List ℕ
from m [] = []
from m (v ∷ vs) = cond (ltb v m) (from m vs) (v ∷ from m vs)

-- the used variables of each kind in their order
unfoldable pub maximums : Tree Atomic → List ℕ
unfolding vars below
maximums d = below first_minimum (vars d)

unfoldable pub minimums : Tree Atomic → List ℕ
unfolding vars from
minimums d = from first_minimum (vars d)

-- the number, computed
unfoldable pub number : State → List ℕ → Tree Atomic → ℕ
unfolding max_vals min_vals maximums minimums start value
number s os d = max_vals s.size (maximums d) (start s os) (λ θ. min_vals s.size (minimums d) θ (value s d))
