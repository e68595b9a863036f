-- The table of lines, value and states for each, ascending: what the code's contracts need.
use Rattle.std.specs.Prelude.{◌≡◌, Bool, ◌&&◌, cond, List, [], ◌∷◌, ◌++◌, ℕ, zero, suc, ◌+◌, ◌*◌, ◌≤◌, ◌<◌, length, get_or, set, eqb, ltb}
use Rattle.spread.specs.Spread.{Entry}

-- words of a line
abbrev pub line_words : ℕ
line_words = 2

abbrev pub value_at : List ℕ → ℕ → ℕ
value_at t i = get_or t (i * line_words) 0

abbrev pub states_at : List ℕ → ℕ → ℕ
states_at t i = get_or t (i * line_words + 1) 0

unfoldable pub entry_at : List ℕ → ℕ → Entry
entry_at t i = record { value = value_at t i; states = states_at t i }

-- the first n entries
unfoldable pub entries_at : List ℕ → ℕ → List Entry
unfolding entry_at
entries_at t zero = []
entries_at t (suc n) = entries_at t n ++ (entry_at t n ∷ [])

-- entry i written
unfoldable pub put_entry : List ℕ → ℕ → ℕ → ℕ → List ℕ
put_entry t i v s = set (set t (i * line_words) v) (i * line_words + 1) s

-- a value that is met once
abbrev pub once : ℕ → Entry
once v = record { value = v; states = 1 }

-- one state more
abbrev pub more : Entry → Entry
more e = record { value = e.value; states = suc e.states }

-- the entries after one more state of value v
unfoldable pub enter : ℕ → List Entry → List Entry
enter v [] = once v ∷ []
enter v (e ∷ es) = cond (ltb v e.value) (once v ∷ e ∷ es) (cond (eqb v e.value) (more e ∷ es) (e ∷ enter v es))

-- states of an entry before one more: fewer than there are of 16 facts
abbrev pub most_states : ℕ
most_states = 65536

-- count entries, values ascending, with room for one more
pub record Enterable (t : List ℕ) (count : ℕ) : Type 0 where
  pub room : count * line_words + line_words ≤ length t
  pub ascend : (i j : ℕ) → i < j → j < count → value_at t i < value_at t j
  pub few : (i : ℕ) → i < count → states_at t i < most_states

-- r is the first place at which a value is not below v
pub record Seeks (t : List ℕ) (count v r : ℕ) : Type 0 where
  pub within : r ≤ count
  pub before : (i : ℕ) → i < r → value_at t i < v
  pub from : (i : ℕ) → r ≤ i → i < count → v ≤ value_at t i

-- entry `at` is there and has the value v
unfoldable pub is_there : List ℕ → ℕ → ℕ → ℕ → Bool
is_there t count at v = ltb at count && eqb (value_at t at) v

-- the entries from `at` on stand one place higher
pub record Shifted (t : List ℕ) (at count : ℕ) (t' : List ℕ) : Type 0 where
  pub before : (i : ℕ) → i < at → entry_at t' i ≡ entry_at t i
  pub moved : (i : ℕ) → at ≤ i → i < count → entry_at t' (suc i) ≡ entry_at t i

pub record Entered (t : List ℕ) (count v r : ℕ) (t' : List ℕ) : Type 0 where
  pub entries : entries_at t' r ≡ enter v (entries_at t count)
