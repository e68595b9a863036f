-- What a diagram of a text is where no step is refused, and what is asked of its labels and leaves (document 01, section 'Text').
use Rattle.std.specs.Prelude.{ℕ, ◌≤◌}
use Rattle.label.specs.declared.Test.TheVariants.{Always, Is}
use Rattle.diagram.specs.Sizes.{highest_value}
use Rattle.diagram.specs.Diagram.{Diagram, leaf}
use Rattle.regression.specs.Result.{stepped}
use Rattle.regression.specs.Step.{test_diagram}
use Rattle.reading.specs.Tree.{Reading}
use Rattle.reading.specs.Tree.Reading.{branch, number}

-- the diagram that the row steps give where none is refused
unfoldable pub diagram_for : Reading → Diagram
unfolding test_diagram
diagram_for (number v) = leaf v
diagram_for (branch t h f) = stepped (test_diagram t) (diagram_for h) (diagram_for f)

-- each label asked satisfies P
abbrev pub EachAsked : (ℕ → Type 0) → Reading → Type 0
EachAsked P (number v) = Unit {0}
EachAsked P (branch Always h f) = EachAsked P h × EachAsked P f
EachAsked P (branch (Is l) h f) = P l.packed × EachAsked P h × EachAsked P f

-- no leaf is above 10^18
abbrev pub EachValue : Reading → Type 0
EachValue (number v) = v ≤ highest_value
EachValue (branch t h f) = EachValue h × EachValue f
