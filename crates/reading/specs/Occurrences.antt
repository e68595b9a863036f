-- All variables of a line in the order of their first occurrence, kind by kind, however many (document 01, section 'Text'; document 02, L12).
use Rattle.std.specs.Prelude.{List, [], ◌∷◌, ◌++◌}
use Rattle.words.specs.declared.Key.{Key}
use Rattle.events.specs.declared.Event.{Event}
use Rattle.events.specs.declared.Event.TheVariants as E
use Rattle.reading.specs.declared.Kind.{Kind}
use Rattle.reading.specs.declared.Kind.TheVariants as K
use Rattle.reading.specs.Head.{argument_of}
use Rattle.std.specs.Prelude.{Option}
use Rattle.std.specs.Prelude.{Some, None}

-- %name, or another word
abbrev pub minimum_of : Event → Option Key
minimum_of (E.Name k) = None
minimum_of (E.Variable k) = None
minimum_of (E.Parameter k) = None
minimum_of (E.Minimum k) = Some k
minimum_of (E.Number v) = None
minimum_of E.Equal = None
minimum_of (E.Holds k n) = None
minimum_of E.Step = None
minimum_of E.End = None

-- the variable of a kind, or another word
abbrev pub variable_of : Kind → Event → Option Key
variable_of K.Maximum e = argument_of e
variable_of K.Minimum e = minimum_of e

-- the variable that a word is
abbrev pub word_keys : Option Key → List Key
word_keys (Some k) = k ∷ []
word_keys None = []

-- the variables of a kind among the words
abbrev pub keys_of : Kind → List Event → List Key
keys_of c [] = []
keys_of c (e ∷ es) = word_keys (variable_of c e) ++ keys_of c es

abbrev pub variable_keys : List Event → List Key
variable_keys es = keys_of K.Maximum es

abbrev pub minimum_keys : List Event → List Key
minimum_keys es = keys_of K.Minimum es
