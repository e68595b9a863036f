-- The event at the front of the bytes of a line, and all events of the bytes.
use Rattle.std.specs.Prelude.{ℕ, zero, suc, ◌+◌, List, [], ◌∷◌, Bool, true, false, cond, ◌&&◌, leb, eqb, length, get_or, take, drop}
use Rattle.words.specs.Bytes.{is_letter, is_digit, is_name_byte, run, value_of}
use Rattle.words.specs.Keys.{key_of}
use Rattle.words.specs.declared.Key.{Key}
use Rattle.events.specs.declared.Event.{Event}
use Rattle.events.specs.declared.Event.TheVariants.{Name, Variable, Parameter, Minimum, Number, Equal, Holds, Step, End}
use Rattle.events.specs.declared.Seen.{Seen}
use Rattle.events.specs.declared.Word.{Word}

-- i, or the place behind it where a space stands there
unfoldable pub space : List ℕ → ℕ → ℕ
space s i = cond (eqb (get_or s i 0) 32) (i + 1) i

-- behind a name that ends at i: the closing bracket of an atom is passed too
unfoldable pub behind : List ℕ → ℕ → ℕ
behind s i = cond (eqb (get_or s i 0) 41) (space s (i + 1)) (space s i)

unfoldable pub space_bit : ℕ → ℕ
space_bit b = cond (eqb b 32) 1 0

-- how many spaces stand before the first closing bracket
unfoldable pub spaces : List ℕ → ℕ
spaces [] = 0
spaces (b ∷ s) = cond (eqb b 41) 0 (space_bit b + spaces s)

abbrev pub seen : Event → ℕ → Seen
seen e n = record { event = e; taken = n }

-- the name at i: its key (that of no name where it is too long), and the place of what follows
unfoldable pub name_key : List ℕ → ℕ → Key
name_key t n = cond (leb n 15) (key_of (take n t)) (record { a = 0; b = 0 })

unfoldable pub word_at : List ℕ → ℕ → Word
word_at s i =
    record { key = name_key (drop i s) (run is_name_byte (drop i s)); place = behind s (i + run is_name_byte (drop i s)) }

-- (if (
unfoldable pub is_if : List ℕ → Bool
is_if s = eqb (get_or s 1 0) 105 && (eqb (get_or s 2 0) 102 && (eqb (get_or s 3 0) 32 && eqb (get_or s 4 0) 40))

-- the atom whose bracket stands at i
unfoldable pub atom_front : List ℕ → ℕ → Seen
atom_front s i =
    cond (eqb (get_or s (i + 1) 0) 61)
    (seen Equal (space s (i + 2)))
    (seen (Holds (word_at s (i + 1)).key (spaces (drop (i + 1) s))) (word_at s (i + 1)).place)

unfoldable pub number_front : List ℕ → Seen
number_front s = seen (Number (value_of (take (run is_digit s) s))) (space s (run is_digit s))

-- the event at the front; the last byte is the line's closing bracket
unfoldable pub front_of : List ℕ → Seen
front_of s =
    cond (leb (length s) 1) (seen End 0)
    (cond (is_letter (get_or s 0 0)) (seen (Name (word_at s 0).key) (word_at s 0).place)
    (cond (is_digit (get_or s 0 0)) (number_front s)
    (cond (eqb (get_or s 0 0) 63) (seen (Variable (word_at s 1).key) (word_at s 1).place)
    (cond (eqb (get_or s 0 0) 33) (seen (Parameter (word_at s 1).key) (word_at s 1).place)
    (cond (eqb (get_or s 0 0) 37) (seen (Minimum (word_at s 1).key) (word_at s 1).place)
    (cond (eqb (get_or s 0 0) 40) (cond (is_if s) (atom_front s 4) (atom_front s 0))
    (cond (eqb (get_or s 0 0) 41) (seen Step (space s 1))
    (seen End 0))))))))

abbrev pub is_end : Event → Bool
is_end (Name k) = false
is_end (Variable k) = false
is_end (Parameter k) = false
is_end (Minimum k) = false
is_end (Number v) = false
is_end Equal = false
is_end (Holds k n) = false
is_end Step = false
is_end End = true

-- the events of the bytes up to the first end; the first argument bounds how many
unfoldable pub events_from : ℕ → List ℕ → List Event
events_from zero s = []
events_from (suc f) s =
    cond (is_end (front_of s).event) [] ((front_of s).event ∷ events_from f (drop (front_of s).taken s))

unfoldable pub events_of : List ℕ → List Event
events_of s = events_from (length s) s
