-- The events of a line in the order of its words: names, numbers, atoms, and a step at the closing bracket of an if form
-- (document 01, section 'Text': 'read as the row step above when it closes').
use Rattle.std.specs.Prelude.{ℕ, ◌+◌, List, [], ◌∷◌, ◌++◌, map, length}
use Rattle.words.specs.Bytes.{value_of}
use Rattle.words.specs.Keys.{key_of}
use Rattle.forms.specs.Tree.{Term, Atom, Diagram}
use Rattle.forms.specs.Tree.Mark.{plain, variable, parameter, minimum}
use Rattle.forms.specs.Tree.Term.{term}
use Rattle.forms.specs.Tree.Atom.{equal, holds}
use Rattle.forms.specs.Tree.Diagram.{number, branch}
use Rattle.forms.specs.declared.Sort.{Sort}
use Rattle.forms.specs.declared.Sort.TheVariants as S
use Rattle.text.specs.declared.Kind.{Kind}
use Rattle.text.specs.declared.Shape.{Shape}
use Rattle.text.specs.declared.Shape.TheVariants.{Nothing, One, Two, Listed, Paired, Drawn, Named, Headed, Never}
use Rattle.text.specs.Line.{keyword, shape_of, Item, ShapeWords, Words}
use Rattle.events.specs.declared.Event.{Event}
use Rattle.events.specs.declared.Event.TheVariants.{Name, Variable, Parameter, Minimum, Number, Equal, Holds, Step}

-- the place of the first word behind the key word: behind the bracket, the key word and a space
abbrev pub first_word : Kind → ℕ
first_word k = length (keyword k) + 2

abbrev pub name_event : List ℕ → Event
name_event n = Name (key_of n)

abbrev pub variable_event : List ℕ → Event
variable_event n = Variable (key_of n)

abbrev pub parameter_event : List ℕ → Event
parameter_event n = Parameter (key_of n)

abbrev pub minimum_event : List ℕ → Event
minimum_event n = Minimum (key_of n)

abbrev pub number_event : List ℕ → Event
number_event n = Number (value_of n)

abbrev pub term_event : Term → Event
term_event (term plain n) = name_event n
term_event (term variable n) = variable_event n
term_event (term parameter n) = parameter_event n
term_event (term minimum n) = minimum_event n

abbrev pub atom_events : Atom → List Event
atom_events (equal a b) = Equal ∷ term_event a ∷ term_event b ∷ []
atom_events (holds p ts) = Holds (key_of p) (length ts) ∷ map term_event ts

-- the atom, the diagram for true, the diagram for false, then the step
abbrev pub diagram_events : Diagram → List Event
diagram_events (number n) = number_event n ∷ []
diagram_events (branch a d e) = atom_events a ++ (diagram_events d ++ (diagram_events e ++ Step ∷ []))

-- a word of a sort
abbrev pub item_event : (k : Sort) → Item k → Event
item_event S.Name = name_event
item_event S.Variable = variable_event
item_event S.Parameter = parameter_event
item_event S.Any = term_event
item_event S.Number = number_event

-- the words behind the key word, by their shape
abbrev pub shape_events : (h : Shape) → ShapeWords h → List Event
shape_events Nothing w = []
shape_events (One k) x = item_event k x ∷ []
shape_events (Two k l) w = item_event k w.0 ∷ item_event l w.1 ∷ []
shape_events (Listed k) w = name_event w.0 ∷ map (item_event k) w.1
shape_events (Paired k) w = name_event w.0 ∷ name_event w.1 ∷ map (item_event k) w.2
shape_events Drawn d = diagram_events d
shape_events Named w = name_event w.0 ∷ diagram_events w.1
shape_events Headed w = Holds (key_of w.0) (length w.1) ∷ (map variable_event w.1 ++ diagram_events w.2)
shape_events Never w = []

-- the same by the kind of line
abbrev pub words_events : (k : Kind) → Words k → List Event
words_events k w = shape_events (shape_of k) w
