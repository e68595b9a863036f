-- The terms of a diagram over atomic formulas, and their renaming.
use Rattle.std.specs.Prelude.{List, [], ◌∷◌, map, ℕ}
use Rattle.diagram.specs.Diagram.{Tree, leaf, branch, relabel}
use Rattle.state.specs.State.{Atomic, atom}

-- every term of the list is in P
abbrev pub Each : (ℕ → Type 0) → List ℕ → Type 0
Each P [] = Unit {0}
Each P (t ∷ ts) = P t × Each P ts

abbrev pub args : Atomic → List ℕ
args (atom p ts) = ts

-- every term of the diagram is in P
abbrev pub Terms : (ℕ → Type 0) → Tree Atomic → Type 0
Terms P (leaf x) = Unit {0}
Terms P (branch a t f) = Each P (args a) × Terms P t × Terms P f

abbrev pub rename_atom : (ℕ → ℕ) → Atomic → Atomic
rename_atom ρ (atom p ts) = atom p (map ρ ts)

-- each term replaced by what ρ gives it
unfoldable pub rename : (ℕ → ℕ) → Tree Atomic → Tree Atomic
unfolding relabel
rename ρ d = relabel (rename_atom ρ) d
