-- What the program has read, written and holds (document 01, sections 'Text' and 'A run, whole').
use Rattle.std.specs.Prelude.{◌≡◌, true, false, List, ℕ, ◌+◌, ◌-◌, ◌≤◌, length, take}
use Rattle.session.specs.Texts.{after_rest, text_answers}
use Rattle.memory.specs.Inner.{Kept}
use Rattle.memory.specs.Memory.{Memory}
use Rattle.pipes.specs.declared.Flow.TheVariants.{Open, Ended, Unread, Unwritten, TooLong}
use Rattle.pipes.specs.declared.Tally.{Tally}
use Rattle.pipes.specs.Tally.{Got, Writes}
use Rattle.texts.specs.declared.Position.{Position}
use Rattle.texts.specs.declared.Rest.{Rest}
use Rattle.texts.specs.Running.{all_bytes}
use Rattle.texts.specs.Inner.{progress_of, behind_written}
use Rattle.texts.specs.Sending.{most_lines}
use Rattle.texts.specs.Streaming.{fresh, on_bytes, stream_start}
use Rattle.yindolve.specs.declared.Refilled.{Refilled}

-- ===== Reading on =====

-- where there is a whole line in hand nothing is read; otherwise bytes stand behind those in hand, which stay
pub record Refills (t : Tally) (rest : Rest) (block : List ℕ) (r : Refilled) (block' : List ℕ) : Type 0 where
  pub front : take rest.count block' ≡ take rest.count block
  pub whole : rest.whole ≡ true → (r.tally ≡ t) × (r.n ≡ rest.count)
  pub read : rest.whole ≡ false → Got t (length block - rest.count) r.tally × (r.n ≡ rest.count + r.tally.last)

-- behind answers that are written
abbrev pub empty_at : Position → Position
empty_at p = record { numbers = p.numbers; lines = p.lines; met = p.met; end = 0 }

-- ===== What is in hand =====

-- the bytes read are a text, those written its answers so far, and the position, the words and the bytes of the block are what is held of it
pub record InHand (t : Tally) (p : Position) (n : ℕ) (w : Memory) (block out : List ℕ) : Type 0 where
  pub text : List ℕ
  pub answers : List ℕ
  pub read : length text ≡ t.read
  pub written : (t.flow ≡ Unwritten → ⊥) → length answers ≡ t.written
  pub is : behind_written answers (on_bytes (fresh (progress_of p w out)) (take n block)) ≡ on_bytes stream_start text
  pub none : p.end ≡ 0
  pub lines : p.lines + n ≤ t.read
  pub kept : Kept p.numbers w

-- ===== The end =====

-- where the input ended, the answers of its end are written; otherwise nothing
pub record Finishes (t : Tally) (count : ℕ) (p : Position) (out : List ℕ) (r : Tally) : Type 0 where
  pub ended : t.flow ≡ Ended → (w : Memory) (s : List ℕ) → length s ≡ count → Writes t (length (all_bytes (after_rest (progress_of p w out) s))) r
  pub other : (t.flow ≡ Ended → ⊥) → r ≡ t

-- some text of so many bytes has answers of so many bytes, or had before its end: counts only; which bytes are handed to the output is read off the code
pub record Answers (read written : ℕ) : Type 0 where
  pub text : List ℕ
  pub long : length text ≡ read
  pub answers : length (text_answers text) ≡ written

pub record AnswersSoFar (read written : ℕ) : Type 0 where
  pub text : List ℕ
  pub long : length text ≡ read
  pub answers : length (on_bytes stream_start text).progress.bytes ≡ written

-- the input is read to its end, and as many bytes are written as all answers of such a text have; or a read failed, and as many as its lines have, without the
-- closing answer; or a write failed; or the bytes read have no number
pub record Ends (room : ℕ) (r : Tally) : Type 0 where
  pub over : r.flow ≡ Open → ⊥
  pub ended : r.flow ≡ Ended → Answers r.read r.written
  pub unread : r.flow ≡ Unread → AnswersSoFar r.read r.written
  pub long : r.flow ≡ TooLong → most_lines ≤ r.read + room
