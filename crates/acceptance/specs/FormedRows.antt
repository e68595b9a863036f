-- The rows that may be formed while a form is read again as a reward (document 02, L2), a row met more than once as often as it is met.
use Rattle.std.specs.Prelude.{cond, List, [], ◌∷◌, ◌++◌, ℕ, zero, suc, ltb}
use Rattle.diagram.specs.Diagram.{Diagram, leaf, branch}
use Rattle.apply.specs.Apply.{node}
use Rattle.regression.specs.Step.{label_test}

-- a value from here on takes three bytes at least
abbrev pub three_digits : ℕ
three_digits = 100

-- the leaves below n, those of 1 and 0 among them
unfoldable pub low_leaves : ℕ → List Diagram
low_leaves zero = []
low_leaves (suc n) = leaf n ∷ low_leaves n

-- the other leaves of d, as often as they are written
unfoldable pub high_leaves : Diagram → List Diagram
high_leaves (leaf v) = cond (ltb v three_digits) [] (leaf v ∷ [])
high_leaves (branch l t f) = high_leaves t ++ high_leaves f

-- 1 - T, T being the test of the label l
abbrev pub other_test : ℕ → Diagram
other_test l = branch l (leaf 0) (leaf 1)

-- a row step forms T, 1 - T, left product, right product and sum, besides leaves and rows that are there
abbrev pub step_rows : ℕ → Diagram → Diagram → List Diagram
step_rows l t f = label_test l ∷ other_test l ∷ node l t (leaf 0) ∷ node l (leaf 0) f ∷ branch l t f ∷ []

unfoldable pub branch_rows : Diagram → List Diagram
branch_rows (leaf v) = []
branch_rows (branch l t f) = step_rows l t f ++ (branch_rows t ++ branch_rows f)

unfoldable pub formed_rows : Diagram → List Diagram
unfolding low_leaves high_leaves branch_rows
formed_rows d = low_leaves three_digits ++ (high_leaves d ++ branch_rows d)
