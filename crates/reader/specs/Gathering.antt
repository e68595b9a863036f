-- The variables of one kind of a reward gathered by ascending N in their part of a table, as the code does it: what its functions ask of their callers and promise.
use Rattle.std.specs.Prelude.{ℕ, ◌+◌, ◌≤◌, ◌≡◌, true, false, cond, List, [], ◌∷◌, ◌++◌, eqb, ltb, leb, length, take}
use Rattle.label.specs.Limits.{variable_count}
use Rattle.words.specs.Bytes.{decimal}
use Rattle.words.specs.Words.{number_form}
use Rattle.words.specs.Keys.{name_of}
use Rattle.words.specs.declared.Key.{Key}
use Rattle.names.specs.Keys.{keys_at}
use Rattle.reader.specs.declared.Pair.{Pair}
use Rattle.events.specs.declared.Event.{Event}
use Rattle.reading.specs.Reading.{Met}
use Rattle.reading.specs.Occurrences.{variable_keys, minimum_keys}
use Rattle.reading.specs.Numbering.{takes, is_numbered, number_of, all_numbered}
use Rattle.reader.specs.Callers.{Part}
use Rattle.std.specs.Prelude.{Option}
use Rattle.std.specs.Prelude.{Some, None}

-- the N that the bytes write, or that they are no number
abbrev pub whole_number : List ℕ → Option ℕ
whole_number s = cond (takes (length s) (number_form s)) (Some (decimal s)) None

-- the N of a name, or that it is not written so
abbrev pub numbered_as : List ℕ → Option ℕ
numbered_as n = cond (is_numbered n) (Some (number_of n)) None

-- two variables with their N, by ascending N, and the greater N
abbrev pub paired : Key → ℕ → Key → ℕ → Pair
paired x n y m = cond (ltb n m) (record { low = x; high = y; order = m }) (record { low = y; high = x; order = n })

-- a variable sorted in, each greater one moved up by one place
unfoldable pub moved : Key → List Key → List Key
moved k [] = k ∷ []
moved k (x ∷ xs) =
    cond (ltb (number_of (name_of k)) (number_of (name_of x))) (k ∷ moved x xs)
    (cond (eqb (number_of (name_of k)) (number_of (name_of x))) (x ∷ xs) (x ∷ moved k xs))

-- one more than the limit is kept
abbrev pub moved_in : List Key → Key → List Key
moved_in vs k = cond (leb (length vs) variable_count) (moved k vs) vs

abbrev pub gathered : List Key → List Key → List Key
gathered vs [] = vs
gathered vs (k ∷ ks) = gathered (moved_in vs k) ks

-- those of ks behind vs, where each is written with its N, else none
unfoldable pub kept_first : List Key → List Key → List Key
kept_first vs ks = cond (all_numbered ks) (gathered vs ks) []

-- kind by kind
abbrev pub kept_met : List Event → Met
kept_met es = record { variables = kept_first [] (variable_keys es); minimums = kept_first [] (minimum_keys es) }

-- the promise of writing bytes at a place: the place behind them
pub record Spelt (out : List ℕ) (at : ℕ) (bytes : List ℕ) (r : ℕ) (out' : List ℕ) : Type 0 where
  pub place : r ≡ at + length bytes
  pub words : take r out' ≡ take at out ++ bytes

-- a part with room for one variable more, and the variable's N
pub record Insertable (vs : List ℕ) (count : ℕ) (k : Key) (n : ℕ) : Type 0 where
  pub table : Part vs count
  pub room : count ≤ variable_count
  pub number : n ≡ number_of (name_of k)

abbrev pub GathersAs : List Key → List Key → List ℕ → Option ℕ → Type 0
GathersAs us ks vs (Some n) = (all_numbered ks ≡ true) × (keys_at vs 0 n ≡ gathered us ks) × Part vs n
GathersAs us ks vs None = all_numbered ks ≡ false

-- the promise of gathering the variables ks behind us
pub record Gathers (us ks : List Key) (r : Option ℕ) (vs' : List ℕ) : Type 0 where
  pub is : GathersAs us ks vs' r
