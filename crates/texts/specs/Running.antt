-- A text answered in a buffer: the answers behind one another, up to the first that has no room (document 01, section 'A run, whole').
use Rattle.std.specs.Prelude.{◌≡◌, Bool, cond, List, [], ◌∷◌, ◌++◌, ℕ, length, take, drop, leb}
use Rattle.basics.specs.Prefix.{Prefix}
use Rattle.session.specs.Texts.{Lines, lines_of, Progress, after_line, after_lines, after_rest, closing, beginning, text_answers}
use Rattle.texts.specs.declared.Ran.{Ran}
use Rattle.texts.specs.declared.Ran.TheVariants.{Done, Full}

-- what is written, and what is answered
pub record Filled : Type 0 where
  pub bytes : List ℕ
  pub answer : Ran

abbrev pub fits : ℕ → List ℕ → Bool
fits room s = leb (length s) room

-- the next answer has no room: how many bytes were written, and how many lines were answered
abbrev pub stopped : Progress → Filled
stopped p = record { bytes = p.bytes; answer = Full (length p.bytes) p.lines }

abbrev pub all_bytes : Progress → List ℕ
all_bytes p = p.bytes ++ closing p.session.part p.met

-- behind the last line
unfoldable pub fill_closing : ℕ → Progress → Filled
unfolding closing
fill_closing room p = cond (fits room (all_bytes p)) (record { bytes = all_bytes p; answer = Done (length (all_bytes p)) }) (stopped p)

-- behind the last line feed
unfoldable pub fill_rest : ℕ → Progress → List ℕ → Filled
unfolding fill_closing after_rest
fill_rest room p s = cond (fits room (after_rest p s).bytes) (fill_closing room (after_rest p s)) (stopped p)

-- line by line
unfoldable pub fill_lines : ℕ → Progress → List (List ℕ) → List ℕ → Filled
unfolding fill_rest after_line
fill_lines room p [] rest = fill_rest room p rest
fill_lines room p (l ∷ ls) rest = cond (fits room (after_line p l).bytes) (fill_lines room (after_line p l) ls rest) (stopped p)

abbrev pub fill_from : ℕ → Progress → Lines → Filled
fill_from room p t = fill_lines room p t.whole t.rest

-- a whole text, in a buffer of so many bytes
unfoldable pub filled : ℕ → List ℕ → Filled
unfolding fill_lines lines_of beginning
filled room s = fill_from room beginning (lines_of s)

-- bytes in front of a buffer, the others stay
abbrev pub in_front : List ℕ → List ℕ → List ℕ
in_front w out = w ++ drop (length w) out

-- a call answers and leaves in the buffer what f says
pub record Fills (f : Filled) (out : List ℕ) (r : Ran) (out' : List ℕ) : Type 0 where
  pub answer : r ≡ f.answer
  pub result : out' ≡ in_front f.bytes out

-- ===== Answers that have no room =====

-- how far a text is read: so many lines, or all and the rest behind them
pub data Reached (p : Progress) (ls : List (List ℕ)) (s : List ℕ) (q : Progress) : Type 0 where
  after : (k : ℕ) → q ≡ after_lines p (take k ls) → Reached p ls s q
  behind : q ≡ after_rest (after_lines p ls) s → Reached p ls s q

-- without room for all answers: the lines answered and the bytes written, which begin all answers
pub record RunStops (s out : List ℕ) (r : Ran) (out' : List ℕ) : Type 0 where
  pub progress : Progress
  pub answer : r ≡ Full (length progress.bytes) progress.lines
  pub result : out' ≡ in_front progress.bytes out
  pub reached : Reached beginning (lines_of s).whole (lines_of s).rest progress
  pub begins : Prefix progress.bytes (text_answers s)
