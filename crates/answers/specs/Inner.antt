-- What contracts of inner functions and proofs cite. Nothing here has to be believed.
use Rattle.std.specs.Prelude.{◌≡◌, cond, List, ◌++◌, ℕ, ◌+◌, leb, length, take, drop}
use Rattle.std.specs.Prelude.{None, Option, Some}

-- the bytes of a line at most: a word, four numbers and the signs between them
abbrev pub line_bytes : ℕ
line_bytes = 90

-- the bytes w put at a place of a buffer of so many bytes: the place behind them, or that there is no room
unfoldable pub put_answer : ℕ → ℕ → List ℕ → Option ℕ
put_answer room place w = cond (leb (place + length w) room) (Some (place + length w)) None

-- the buffer then: all other bytes stay, and all stay where there is no room
unfoldable pub put_result : List ℕ → ℕ → List ℕ → List ℕ
put_result s place w = cond (leb (place + length w) (length s)) (take place s ++ w ++ drop (place + length w) s) s

pub record Placed (s : List ℕ) (place : ℕ) (w : List ℕ) (r : Option ℕ) (s' : List ℕ) : Type 0 where
  pub answer : r ≡ put_answer (length s) place w
  pub result : s' ≡ put_result s place w
