-- A diagram that is built ends as it is, or closed up: what the code's inner functions answer.
use Rattle.std.specs.Prelude.{ℕ, ◌≡◌, List}
use Rattle.diagram.specs.Diagram.{Diagram}
use Rattle.refusal.specs.Outcome.{Outcome}
use Rattle.words.specs.declared.Key.{Key}
use Rattle.events.specs.declared.Event.{Event}
use Rattle.reading.specs.declared.Binding.TheVariants.{Any}
use Rattle.reading.specs.Operations.{Op}
use Rattle.reading.specs.Numbering.{met_first}
use Rattle.reading.specs.Reading.{Environment, Met, arguments}
use Rattle.reader.specs.declared.Scope.{Scope}
use Rattle.build.specs.Machine.{built, built_closed}
use Rattle.drawing.specs.Drawing.{drawn, drawn_closed}
use Rattle.drawing.specs.declared.Ending.{Ending}
use Rattle.drawing.specs.declared.Ending.TheVariants.{Plain, Closed}

unfoldable pub built_to : Ending → List ℕ → List Op → Outcome Diagram
unfolding built built_closed
built_to Plain ar os = built os
built_to Closed ar os = built_closed ar os

-- the variables known before the words: those of the table, or a reward's own
unfoldable pub known_to : Ending → List Event → List Key → Met
known_to Plain es vs = arguments vs
known_to Closed es vs = met_first es

-- a reward may name any variable
abbrev pub Allows : Ending → Scope → Type 0
Allows Plain s = Unit {0}
Allows Closed s = s.binding ≡ Any

unfoldable pub drawn_to : Ending → Environment → List Event → List Key → Outcome Diagram
unfolding drawn drawn_closed
drawn_to Plain σ es vs = drawn σ es vs
drawn_to Closed σ es vs = drawn_closed σ es
