-- Atomic formulas, states, and what a diagram says in one (document 01, section 'States and value').
use Rattle.std.specs.Prelude.{◌≡◌, List, [], ◌∷◌, map, Bool, false, cond, ℕ, zero, suc, ◌-◌, ◌<◌, get_or, ltb, eqb}
use Rattle.label.specs.Limits.{first_parameter, first_variable}
use Rattle.label.specs.Labels.{predicate_of, unpacked, terms_of}
use Rattle.diagram.specs.Diagram.{Tree, Diagram, eval, relabel}

-- an atomic formula: a predicate and its terms. A term is its number: constants first, then parameters, then variables, then minimum
-- variables (document 02, L12). In this crate a variable is one of either kind: every term from the first variable on.
pub data Atomic : Type 0 where
  atom : ℕ → List ℕ → Atomic

-- what the label l says under the arity list ar
unfoldable pub atom_of : List ℕ → ℕ → Atomic
atom_of ar l = atom (predicate_of l) (terms_of ar (unpacked l))

-- a diagram over what its labels say
unfoldable pub meaning : List ℕ → Diagram → Tree Atomic
unfolding relabel atom_of
meaning ar d = relabel (atom_of ar) d

-- a state: its objects are the numbers below its size; an object for each constant, and the facts that are true
pub record State : Type 0 where
  pub size : ℕ
  pub constant : ℕ → ℕ
  pub fact : ℕ → List ℕ → Bool

-- there is an object, and the constants are objects
pub record Good (s : State) : Type 0 where
  pub some : 0 < s.size
  pub placed : (c : ℕ) → s.constant c < s.size

-- the first two objects are one
abbrev pub equated : List ℕ → Bool
equated [] = false
equated (a ∷ []) = false
equated (a ∷ b ∷ os) = eqb a b

-- whether a predicate holds of objects; predicate 0 is equality
abbrev pub truth : State → ℕ → List ℕ → Bool
truth s zero os = equated os
truth s (suc p) os = s.fact (suc p) os

-- an atomic formula's truth where each term has the object that θ gives it
unfoldable pub holds : State → (ℕ → ℕ) → Atomic → Bool
holds s θ (atom p ts) = truth s p (map θ ts)

-- the leaf that the valuation θ leads to
unfoldable pub value : State → Tree Atomic → (ℕ → ℕ) → ℕ
unfolding eval holds
value s d θ = eval (holds s θ) d

-- x below m and y from m on
abbrev pub low : ℕ → ℕ → ℕ → ℕ → ℕ
low m t x y = cond (ltb t m) x y

-- the object of a term that is no variable: constants by the state, parameters by the tuple os
unfoldable pub fixed : State → List ℕ → ℕ → ℕ
fixed s os t = low first_parameter t (s.constant t) (get_or os (t - first_parameter) (s.constant 0))

-- θ gives every term an object of the state, what is no variable as placed
pub record Fits (s : State) (os : List ℕ) (θ : ℕ → ℕ) : Type 0 where
  pub low : (t : ℕ) → t < first_variable → θ t ≡ fixed s os t
  pub range : (t : ℕ) → θ t < s.size
