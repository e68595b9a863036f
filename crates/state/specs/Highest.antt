-- The highest leaf of a diagram over all valuations of a state, as a relation and as a number that computes (document 01, section 'States and value'): its value
-- where it has no minimum variable. Values are the numbers of crate minimum (document 02, L12).
use Rattle.std.specs.Prelude.{List, [], ◌∷◌, cond, ℕ, ◌<◌, get_or, ltb, eqb}
use Rattle.label.specs.Limits.{first_variable}
use Rattle.diagram.specs.Diagram.{Tree, leaf, branch}
use Rattle.state.specs.Max.{max_to}
use Rattle.state.specs.State.{Atomic, State, value, low, fixed}
use Rattle.state.specs.Terms.{args}

-- θ with the object o for v
unfoldable pub put : (ℕ → ℕ) → ℕ → ℕ → ℕ → ℕ
put θ v o t = cond (eqb t v) o (θ t)

-- the highest of f over all choices of an object below n for each variable of the list; with no variable there is one choice
unfoldable pub max_vals : ℕ → List ℕ → (ℕ → ℕ) → ((ℕ → ℕ) → ℕ) → ℕ
unfolding max_to put
max_vals n [] θ f = f θ
max_vals n (v ∷ vs) θ f = max_to n (λ o. max_vals n vs (put θ v o) f)

-- into a list of numbers that ascends, unless it is there
unfoldable pub insert : ℕ → List ℕ → List ℕ
insert t [] = t ∷ []
insert t (v ∷ vs) = cond (ltb t v) (t ∷ v ∷ vs) (cond (eqb t v) (v ∷ vs) (v ∷ insert t vs))

unfoldable pub vars_of : List ℕ → List ℕ → List ℕ
unfolding insert
vars_of [] vs = vs
vars_of (t ∷ ts) vs = cond (ltb t first_variable) (vars_of ts vs) (insert t (vars_of ts vs))

unfoldable pub vars_in : Tree Atomic → List ℕ → List ℕ
unfolding vars_of
vars_in (leaf x) vs = vs
vars_in (branch a t f) vs = vars_of (args a) (vars_in t (vars_in f vs))

-- the used variables in their order
unfoldable pub vars : Tree Atomic → List ℕ
unfolding vars_in
vars d = vars_in d []

-- what is no variable as placed, and object 0 for each variable
unfoldable pub start : State → List ℕ → ℕ → ℕ
unfolding fixed
start s os t = low first_variable t (fixed s os t) 0

-- the highest leaf, computed
unfoldable pub highest : State → List ℕ → Tree Atomic → ℕ
unfolding max_vals vars start value
highest s os d = max_vals s.size (vars d) (start s os) (value s d)

-- each object of the tuple is one of the state
pub record Bound (s : State) (os : List ℕ) : Type 0 where
  pub each : (i : ℕ) → get_or os i (s.constant 0) < s.size
