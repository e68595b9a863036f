-- What the words of a line without a diagram say (document 01, section 'Text').
use Rattle.std.specs.Prelude.{ℕ, List, map, get_or}
use Rattle.words.specs.declared.Key.{Key}
use Rattle.events.specs.declared.Event.{Event}
use Rattle.events.specs.declared.Event.TheVariants.{Name, Variable, Parameter, Minimum, Number, Equal, Holds, Step, End}

abbrev pub no_key : Key
no_key = record { a = 0; b = 0 }

-- the key of a name, ?name, !name or %name; other words have none
abbrev pub key_in : Event → Key
key_in (Name k) = k
key_in (Variable k) = k
key_in (Parameter k) = k
key_in (Minimum k) = k
key_in (Number v) = no_key
key_in Equal = no_key
key_in (Holds k n) = k
key_in Step = no_key
key_in End = no_key

-- a number; other words have none
abbrev pub number_in : Event → ℕ
number_in (Name k) = 0
number_in (Variable k) = 0
number_in (Parameter k) = 0
number_in (Minimum k) = 0
number_in (Number v) = v
number_in Equal = 0
number_in (Holds k n) = 0
number_in Step = 0
number_in End = 0

-- word i of the line
abbrev pub word_at : List Event → ℕ → Event
word_at es i = get_or es i End

abbrev pub keys_in : List Event → List Key
keys_in es = map key_in es

abbrev pub numbers_in : List Event → List ℕ
numbers_in es = map number_in es
