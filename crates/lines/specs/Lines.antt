-- A session in lent words before its first line; and what the function of a line that stands where it may promises.
use Rattle.std.specs.Prelude.{◌≡◌, List, ℕ}
use Rattle.refusal.specs.declared.Refusal.TheVariants.{Form}
use Rattle.text.specs.declared.Kind.{Kind}
use Rattle.answers.specs.declared.Answer.TheVariants as A
use Rattle.session.specs.Session.{opening}
use Rattle.session.specs.Replies.{done, words_of}
use Rattle.memory.specs.declared.Numbers.{Numbers}
use Rattle.memory.specs.declared.Said.{Said}
use Rattle.memory.specs.Inner.{Ready, Answers, Shown, Kept}
use Rattle.memory.specs.Memory.{Memory, memory_of, session_of, Rooms, opening_numbers}

-- numbers and words are the opening session
pub record Opening (n : Numbers) (w : Memory) : Type 0 where
  pub kept : Kept n w
  pub session : session_of n w ≡ opening

-- the numbers are those before the first line; whatever the other words are, if they have their room
pub record Opened (arities state : List ℕ) (r : Numbers) (arities' state' : List ℕ) : Type 0 where
  pub numbers : r ≡ opening_numbers
  pub says : (names listings table value : List ℕ) → Rooms (memory_of names arities listings table state value)
      → Opening r (memory_of names arities' listings table state' value)

-- the answer, the session behind it, and the words that the answer shows in front of the working space
pub record Performed (k : Kind) (s : List ℕ) (number : ℕ) (n : Numbers) (w : Memory) (r : Said) (w' : Memory) (work' : List ℕ) : Type 0 where
  pub answers : Answers k s number n w r w'
  pub shown : Shown (done (session_of n w) number k (words_of k s)) work'

-- what a function of the model's lines may rely on: the words that it is not lent are those of some state and value
pub record ModelReady (k : Kind) (s : List ℕ) (n : Numbers) (names arities listings table : List ℕ) : Type 0 where
  pub state : List ℕ
  pub value : List ℕ
  pub ready : Ready k s n (memory_of names arities listings table state value)

-- what it promises, whatever they are
pub record ModelPerformed (k : Kind) (s : List ℕ) (number : ℕ) (n : Numbers) (names arities listings table : List ℕ) (r : Said)
    (names' arities' listings' table' work' : List ℕ) : Type 0 where
  pub says : (state value : List ℕ) → Ready k s n (memory_of names arities listings table state value)
      → Performed k s number n (memory_of names arities listings table state value) r (memory_of names' arities' listings' table' state value) work'

-- bytes that are no line
abbrev pub no_line : ℕ → Numbers → Said
no_line number n = record { numbers = n; answer = A.Refused Form number }
