-- Numbers of small diagrams, computed from the definitions.
use Rattle.std.specs.Prelude.{◌≡◌, refl, Bool, false, List, [], ◌∷◌, ℕ, max, eqb}
use Rattle.label.specs.Renamings.{freeing}
use Rattle.diagram.specs.Diagram.{Tree, leaf, branch}
use Rattle.state.specs.State.{Atomic, atom, State}
use Rattle.state.specs.Terms.{rename}
use Rattle.state.specs.Highest.{highest}
use Rattle.minimum.specs.Number.{number}
use Rattle.minimum.specs.Operations.{closed_kinds, after_kinds}

-- two objects, which are vans and shelves at once
abbrev served : (List ℕ → Bool) → State
served serves = record { size = 2; constant = λ c. 0; fact = λ p os. serves os }

-- van serves shelf: each van its own; the second van both; of one place, the first shelf
abbrev own : List ℕ → Bool
own [] = false
own (a ∷ []) = eqb a 0
own (a ∷ b ∷ os) = eqb a b

abbrev both : List ℕ → Bool
both [] = false
both (a ∷ os) = eqb a 1

-- serves(?v0, %v0), serves(?v0, ?v1), serves(%v0): 7 if so, else 3; and 3 if so, else 7
abbrev van_shelf : Tree Atomic
van_shelf = branch (atom 1 (64 ∷ 128 ∷ [])) (leaf 7) (leaf 3)

abbrev van_van : Tree Atomic
van_van = branch (atom 1 (64 ∷ 65 ∷ [])) (leaf 7) (leaf 3)

abbrev shelf : Tree Atomic
shelf = branch (atom 1 (128 ∷ [])) (leaf 7) (leaf 3)

abbrev no_shelf : Tree Atomic
no_shelf = branch (atom 1 (128 ∷ [])) (leaf 3) (leaf 7)

-- One van serves all shelves: not where each serves its own, though each shelf is served; so where one serves both. Without minimum variables it's the highest leaf.
-- The max of two diagrams that share a minimum variable is no max of numbers: its leaves are 7, and each of the two has a leaf 3.
pub table-number : (number (served own) [] van_shelf ≡ 3)
    × (highest (served own) [] van_shelf ≡ 7)
    × (number (served both) [] van_shelf ≡ 7)
    × (number (served own) [] van_van ≡ 7)
    × (number (served own) [] (leaf 5) ≡ 5)
    × (max (number (served own) [] shelf) (number (served own) [] no_shelf) ≡ 3)
    × (number (served own) [] (branch (atom 1 (128 ∷ [])) (leaf 7) (leaf 7)) ≡ 7)
unfolding number highest
table-number = (refl, refl, refl, refl, refl, refl, refl)

-- Names kind by kind: closing up (?v3, %v5) gives (?v0, %v0), and a second such operand apart (?v1, %v1); freeing two parameters moves ?v0 up by two and leaves %v0.
pub table-names : (closed_kinds (branch (atom 1 (67 ∷ 133 ∷ [])) (leaf 7) (leaf 3)) ≡ van_shelf)
    × (after_kinds van_shelf (branch (atom 1 (67 ∷ 133 ∷ [])) (leaf 7) (leaf 3)) ≡ branch (atom 1 (65 ∷ 129 ∷ [])) (leaf 7) (leaf 3))
    × (rename (freeing 2) (branch (atom 1 (16 ∷ 64 ∷ 128 ∷ [])) (leaf 7) (leaf 3)) ≡ branch (atom 1 (64 ∷ 66 ∷ 128 ∷ [])) (leaf 7) (leaf 3))
unfolding closed_kinds after_kinds freeing rename
table-names = (refl, refl, refl)
