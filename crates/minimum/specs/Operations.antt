-- What is done to diagrams, as far as their numbers see it (document 02, L12; document 01, sections 'Combination' and 'Regression').
use Rattle.std.specs.Prelude.{ℕ, ◌+◌, ◌≤◌, ◌<◌, length}
use Rattle.label.specs.Limits.{first_variable, first_minimum}
use Rattle.label.specs.Renamings.{numbering}
use Rattle.diagram.specs.Diagram.{Tree}
use Rattle.state.specs.State.{Atomic}
use Rattle.state.specs.Terms.{Terms, rename}
use Rattle.minimum.specs.Number.{maximums, minimums}

-- d has no minimum variable
abbrev pub Plain : Tree Atomic → Type 0
Plain d = Terms (λ t. t < first_minimum) d

-- an operation that rises in both operands, as sum, product and max do
abbrev pub Rises : (ℕ → ℕ → ℕ) → Type 0
Rises op = (x x' y y' : ℕ) → x ≤ x' → y ≤ y' → op x y ≤ op x' y'

-- closing up keeps the two kinds separate
unfoldable pub closed_kinds : Tree Atomic → Tree Atomic
unfolding numbering rename maximums minimums
closed_kinds d = rename (numbering (maximums d) (minimums d) first_variable first_minimum) d

-- apart: the variables of the second operand b follow after those of the first, a, kind by kind
unfoldable pub after_kinds : Tree Atomic → Tree Atomic → Tree Atomic
unfolding numbering rename maximums minimums
after_kinds a b = rename (numbering (maximums b) (minimums b) (first_variable + length (maximums a)) (first_minimum + length (minimums a))) b
