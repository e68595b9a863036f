-- The diagram that stands on a line from a place on (document 01, section 'Text'): its words read, then built; what reading and building it in lent words
-- requires and promises.
use Rattle.std.specs.Prelude.{◌≡◌, List, ℕ, ◌*◌, ◌≤◌, length, take, drop}
use Rattle.diagram.specs.Sizes.{result_words, space_words}
use Rattle.diagram.specs.Diagram.{Diagram}
use Rattle.diagram.specs.Rows.{rows}
use Rattle.diagram.specs.Listing.{listing, Good}
use Rattle.refusal.specs.Outcome.{Outcome, ok, and_then}
use Rattle.words.specs.declared.Key.{Key}
use Rattle.forms.specs.Tree as T
use Rattle.events.specs.declared.Event.{Event}
use Rattle.events.specs.Events.{diagram_events}
use Rattle.events.specs.Front.{events_of}
use Rattle.reading.specs.Reading.{Environment, arguments, reading}
use Rattle.reading.specs.Numbering.{reward_reading}
use Rattle.reader.specs.declared.Scope.{Scope}
use Rattle.reader.specs.Callers.{argument_count, Tables, Variables}
use Rattle.build.specs.Machine.{built, built_closed, most_tests}
use Rattle.drawing.specs.Writing.{built_as}
use Rattle.refusal.specs.declared.Refusal.{Refusal}
use Rattle.std.specs.Prelude.{Result}

-- the words es, the arguments vs known before them
unfoldable pub drawn : Environment → List Event → List Key → Outcome Diagram
unfolding reading built
drawn σ es vs = and_then (reading σ es (arguments vs)) (λ w. built w.operations)

-- a reward: its variables by ascending N where each is written so, its diagram closed up
unfoldable pub drawn_closed : Environment → List Event → Outcome Diagram
unfolding reward_reading built_closed
drawn_closed σ es = and_then (reward_reading σ es) (λ w. built_closed σ.arities w.operations)

-- the words of the line from the place `at` on are those of a diagram with at most 64 brackets open together
pub record DiagramAt (line : List ℕ) (at : ℕ) : Type 0 where
  pub diagram : T.Diagram
  pub events : events_of (drop at line) ≡ diagram_events diagram
  pub shallow : T.brackets diagram ≤ most_tests

-- what is required: a line with a diagram from the place `at` on, tables of names, `known` arguments before them, and room
pub record Drawable (line : List ℕ) (at : ℕ) (names arities : List ℕ) (scope : Scope) (vs : List ℕ) (known : ℕ) (out work : List ℕ) : Type 0 where
  pub short : length line ≤ 4095
  pub within : at ≤ length line
  pub there : DiagramAt line at
  pub tables : Tables names arities scope
  pub variables : Variables vs (argument_count known)
  pub out-room : result_words ≤ length out
  pub work-room : space_words ≤ length work

-- the first rows of the result buffer are the listing of d
pub record Holds (ar : List ℕ) (d : Diagram) (out : List ℕ) : Type 0 where
  pub words : take (length (rows d) * 3) out ≡ listing d
  pub room : length (rows d) * 3 ≤ length out
  pub good : Good ar d

-- what is promised: the answer, and the result in the buffer
pub record Draws (ar : List ℕ) (o : Outcome Diagram) (r : Result ℕ Refusal) (out : List ℕ) : Type 0 where
  pub answer : r ≡ built_as o
  pub result : (d : Diagram) → o ≡ ok d → Holds ar d out
