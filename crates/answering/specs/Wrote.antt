-- Bytes written into a lent buffer at a place: what the parts of an answer's line promise.
use Rattle.std.specs.Prelude.{ℕ, ◌+◌, ◌≤◌, ◌≡◌, List, ◌++◌, length, take, drop}

-- the bytes w stand at the place, all else is as before, and the answer is the place behind them
pub record Wrote (s : List ℕ) (place : ℕ) (w : List ℕ) (r : ℕ) (s' : List ℕ) : Type 0 where
  pub behind : r ≡ place + length w
  pub bytes : s' ≡ take place s ++ w ++ drop r s

-- and they are at most so many
pub record WroteWithin (s : List ℕ) (place : ℕ) (w : List ℕ) (most r : ℕ) (s' : List ℕ) : Type 0 where
  pub wrote : Wrote s place w r s'
  pub within : length w ≤ most
