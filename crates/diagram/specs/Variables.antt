-- The variables of a diagram, closing up and moving apart (document 01, section 'Combination'; kind by kind, document 02, L12).
use Rattle.std.specs.Prelude.{Bool, false, ◌||◌, cond, List, [], ◌∷◌, ℕ, zero, suc, ◌+◌, length, eqb}
use Rattle.basics.specs.Members.{mem}
use Rattle.label.specs.Limits.{first_variable, variable_count, first_minimum, minimum_count}
use Rattle.label.specs.Labels.{terms_of, unpacked}
use Rattle.label.specs.Renamings.{renamed, numbering}
use Rattle.diagram.specs.Diagram.{Diagram, leaf, branch, relabel}

-- the term t stands in a label of d
unfoldable pub occurs : List ℕ → ℕ → Diagram → Bool
occurs ar t (leaf v) = false
occurs ar t (branch l x y) = mem eqb t (terms_of ar (unpacked l)) || (occurs ar t x || occurs ar t y)

-- those of the n terms from t on that occur in d, ascending
unfoldable pub occurring : List ℕ → Diagram → ℕ → ℕ → List ℕ
occurring ar d t zero = []
occurring ar d t (suc n) = cond (occurs ar t d) (t ∷ occurring ar d (suc t) n) (occurring ar d (suc t) n)

-- the variables of d, ascending
unfoldable pub variables : List ℕ → Diagram → List ℕ
unfolding occurring occurs
variables ar d = occurring ar d first_variable variable_count

-- its minimum variables, ascending
unfoldable pub minimums : List ℕ → Diagram → List ℕ
unfolding occurring occurs
minimums ar d = occurring ar d first_minimum minimum_count

-- d has no minimum variable
unfoldable pub is_plain : List ℕ → Diagram → Bool
unfolding minimums
is_plain ar d = eqb (length (minimums ar d)) 0

-- the used variables renamed to m, m + 1, .. and the used minimum variables to n, n + 1, .., each kind in its order
unfoldable pub closed_from : List ℕ → ℕ → ℕ → Diagram → Diagram
unfolding variables minimums relabel
closed_from ar m n d = relabel (renamed ar (numbering (variables ar d) (minimums ar d) m n)) d

-- closing up: the used variables become the first ones in their order, and "closing up keeps the two kinds separate"
unfoldable pub closed : List ℕ → Diagram → Diagram
unfolding closed_from
closed ar d = closed_from ar first_variable first_minimum d

-- apart: the variables of the second operand b follow after those of the first, a, and so do its minimum variables
unfoldable pub after : List ℕ → Diagram → Diagram → Diagram
unfolding closed_from
after ar a b = closed_from ar (first_variable + length (variables ar a)) (first_minimum + length (minimums ar a)) b
