-- How the variables of a reward are numbered (document 02, L2): 'Where every variable of a reward is written in that way, N without leading zeros, the reader
-- numbers them by ascending N instead of by first occurrence, and closes up.' Minimum variables 'are read back likewise, kind by kind' (document 02, L12).
use Rattle.std.specs.Prelude.{ℕ, Bool, true, false, ◌&&◌, cond, List, [], ◌∷◌, eqb, ltb, length, get_or, drop}
use Rattle.refusal.specs.Outcome.{Outcome}
use Rattle.words.specs.Bytes.{decimal}
use Rattle.words.specs.Words.{number_form}
use Rattle.words.specs.Keys.{name_of}
use Rattle.words.specs.declared.Key.{Key}
use Rattle.events.specs.declared.Event.{Event}
use Rattle.reading.specs.Reading.{Environment, Met, Written, reading}
use Rattle.reading.specs.Occurrences.{variable_keys, minimum_keys}
use Rattle.std.specs.Prelude.{None, Option, Some}

-- the byte v
abbrev pub letter_v : ℕ
letter_v = 118

-- n bytes are taken
abbrev pub takes : ℕ → Option ℕ → Bool
takes n (Some m) = eqb m n
takes n None = false

-- 'written in that way, N without leading zeros': v and a whole number, nothing else
unfoldable pub is_numbered : List ℕ → Bool
is_numbered n = eqb (get_or n 0 0) letter_v && takes (length (drop 1 n)) (number_form (drop 1 n))

-- the N of a name that is written so
unfoldable pub number_of : List ℕ → ℕ
number_of n = cond (is_numbered n) (decimal (drop 1 n)) 0

-- 'every variable'
abbrev pub all_numbered : List Key → Bool
all_numbered [] = true
all_numbered (k ∷ ks) = is_numbered (name_of k) && all_numbered ks

-- 'by ascending N', each once: a variable sorted in
unfoldable pub inserted : Key → List Key → List Key
inserted k [] = k ∷ []
inserted k (x ∷ xs) =
    cond (ltb (number_of (name_of k)) (number_of (name_of x))) (k ∷ x ∷ xs)
    (cond (eqb (number_of (name_of k)) (number_of (name_of x))) (x ∷ xs) (x ∷ inserted k xs))

-- those of ks sorted in, one after another
abbrev pub by_number : List Key → List Key → List Key
by_number vs [] = vs
by_number vs (k ∷ ks) = by_number (inserted k vs) ks

-- the variables of a kind that have their number before the words are read: all, by ascending N, where each is written in that way, else none
unfoldable pub variables_first : List Key → List Key
variables_first ks = cond (all_numbered ks) (by_number [] ks) []

-- kind by kind
abbrev pub met_first : List Event → Met
met_first es = record { variables = variables_first (variable_keys es); minimums = variables_first (minimum_keys es) }

-- the words of a reward: the pass, begun with these, numbers a variable by its place among them, and any other one by first occurrence
unfoldable pub reward_reading : Environment → List Event → Outcome Written
reward_reading σ es = reading σ es (met_first es)
