-- What is counted of input and output.
use Rattle.std.specs.Prelude.{◌≡◌, Bool, true, false, List, ℕ, ◌+◌, ◌-◌, ◌≤◌, ◌<◌, length, take}
use Rattle.pipes.specs.declared.Flow.{Flow}
use Rattle.pipes.specs.declared.Flow.TheVariants.{Open, Ended, Unread, Unwritten, TooLong}
use Rattle.pipes.specs.declared.Tally.{Tally}

abbrev pub started : Tally
started = record { read = 0; written = 0; last = 0; flow = Open }

abbrev pub is_open : Flow → Bool
is_open Open = true
is_open Ended = false
is_open Unread = false
is_open Unwritten = false
is_open TooLong = false

abbrev pub is_ended : Flow → Bool
is_ended Open = false
is_ended Ended = true
is_ended Unread = false
is_ended Unwritten = false
is_ended TooLong = false

abbrev pub is_unread : Flow → Bool
is_unread Open = false
is_unread Ended = false
is_unread Unread = true
is_unread Unwritten = false
is_unread TooLong = false

-- n bytes more were read
abbrev pub counted : Tally → ℕ → Tally
counted t n = record { read = t.read + n; written = t.written; last = n; flow = Open }

-- nothing more was moved
abbrev pub stopped : Tally → Flow → Tally
stopped t why = record { read = t.read; written = t.written; last = 0; flow = why }

-- n bytes more were written
abbrev pub written : Tally → ℕ → Tally
written t n = record { read = t.read; written = t.written + n; last = t.last; flow = t.flow }

-- what a read may do: bytes stand behind the first ones of the block, or none and the end, a failure, or no number for them
pub data Got (t : Tally) (free : ℕ) (r : Tally) : Type 0 where
  bytes : (n : ℕ) → 0 < n → n ≤ free → t.read + n < 18446744073709551615 → r ≡ counted t n → Got t free r
  end : r ≡ stopped t Ended → Got t free r
  failed : r ≡ stopped t Unread → Got t free r
  many : 18446744073709551615 ≤ t.read + free → r ≡ stopped t TooLong → Got t free r

-- the first bytes of the block stay
pub record Reads (t : Tally) (block : List ℕ) (from : ℕ) (r : Tally) (block' : List ℕ) : Type 0 where
  pub got : Got t (length block - from) r
  pub front : take from block' ≡ take from block

-- what a write may do: all bytes, or not
pub data Writes (t : Tally) (n : ℕ) (r : Tally) : Type 0 where
  all : r ≡ written t n → Writes t n r
  failed : r ≡ stopped t Unwritten → Writes t n r
