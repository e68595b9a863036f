-- What contracts of inner functions and proofs cite. Nothing here has to be believed.
use Rattle.std.specs.Prelude.{◌≡◌, Bool, cond, true, false, not, List, ◌++◌, ℕ, ◌≤◌, ◌+◌, ◌-◌, ◌<◌, length, take, drop, leb, ltb}
use Rattle.session.specs.Texts.{lines_of, Progress, after_line, beginning, reply_bytes}
use Rattle.answers.specs.Inner.{Placed}
use Rattle.answers.specs.Writing.{most_bytes}
use Rattle.session.specs.Replies.{reply}
use Rattle.memory.specs.declared.Numbers.{Numbers}
use Rattle.memory.specs.Inner.{Carried, Kept}
use Rattle.memory.specs.Memory.{Memory, memory_of, session_of, Rooms, starts_of, work_words}
use Rattle.session.specs.declared.Part.TheVariants.{Model}
use Rattle.model_entry.specs.Starts.{Slot, has_start}
use Rattle.texts.specs.Running.{Filled, fits, stopped, fill_rest}
use Rattle.texts.specs.declared.Sent.{Sent}
use Rattle.texts.specs.declared.Position.{Position}
use Rattle.texts.specs.Sending.{most_lines}
use Rattle.texts.specs.declared.Rest.{Rest}
use Rattle.texts.specs.Ends.{line_length}
use Rattle.texts.specs.Streaming.{line_room, Stream, fresh, on_bytes}
use Rattle.texts.specs.declared.Answered.{Answered}
use Rattle.texts.specs.Whole.{unwritten, Whole, whole_from, starts_from}
use Rattle.std.specs.Prelude.{None, Option, Some}

-- behind the last whole line, or where an answer has no room
abbrev pub filled_behind : ℕ → Bool → Progress → List ℕ → Filled
filled_behind room full p s = cond full (stopped p) (fill_rest room p s)

-- the session behind the line and what is carried over, and the answer's bytes put at a place, if there is room; one reply fits most_bytes
pub record Sends (s : List ℕ) (number : ℕ) (n : Numbers) (w : Memory) (out : List ℕ) (place : ℕ) (r : Sent) (w' : Memory) (out' : List ℕ) : Type 0 where
  pub session : session_of r.numbers w' ≡ (reply (session_of n w) number s).session
  pub kept : Kept r.numbers w'
  pub placed : Placed out place (reply_bytes (reply (session_of n w) number s)) r.put out'
  pub short : length (reply_bytes (reply (session_of n w) number s)) ≤ most_bytes
  pub carried : Carried n w r.numbers w'

-- how far a text is read
unfoldable pub progress_of : Position → Memory → List ℕ → Progress
unfolding session_of
progress_of p w out = record { session = session_of p.numbers w; lines = p.lines; met = p.met; bytes = take p.end out }

-- the words are a session's, and the answers are within the buffer
pub record Going (p : Position) (w : Memory) (out : List ℕ) : Type 0 where
  pub kept : Kept p.numbers w
  pub within : p.end ≤ length out

-- before the first line
pub record Started (p : Position) (w : Memory) (out : List ℕ) : Type 0 where
  pub going : Going p w out
  pub is : progress_of p w out ≡ beginning
  pub end : p.end ≡ 0

-- whatever the other words are, if they have their room
pub record Starts (arities state : List ℕ) (r : Position) (arities' state' : List ℕ) : Type 0 where
  pub says : (names listings table value out : List ℕ) → Rooms (memory_of names arities listings table state value)
      → Started r (memory_of names arities' listings table state' value) out

-- the bytes w were written before those of the stream
abbrev pub behind_written : List ℕ → Stream → Stream
behind_written w t = record {
  progress = record { session = t.progress.session; lines = t.progress.lines; met = t.progress.met; bytes = w ++ t.progress.bytes };
  partial = t.partial;
}

-- ===== The bytes kept of a block =====

-- bytes that are not answered yet, from the beginning of a line on: of a line that no line feed ends, as many as are needed
unfoldable pub rest_of : List ℕ → List ℕ
unfolding line_length
rest_of s = cond (ltb (line_length s) (length s)) s (take line_room s)

-- so many bytes are left, with or without a whole line among them
abbrev pub rest_by : ℕ → Bool → Rest
rest_by n true = record { count = n; whole = true }
rest_by n false = record { count = cond (leb n line_room) n line_room; whole = false }

-- of the bytes s those that are needed stand at the front of a block
pub record Keeps (s : List ℕ) (r : Rest) (block' : List ℕ) : Type 0 where
  pub is : take r.count block' ≡ rest_of s
  pub count : r.count ≡ length (rest_of s)
  pub whole : r.whole ≡ ltb (line_length s) (length s)

-- what answering a block from a place on relies on
pub record Answerable (block : List ℕ) (from : ℕ) (p : Position) (w : Memory) (work out : List ℕ) : Type 0 where
  pub inside : from ≤ length block
  pub going : Going p w out
  pub lines : p.lines + (length block - from) ≤ most_lines
  pub work-room : work_words ≤ length work

-- the whole lines of a block from a place on are answered as far as x says: the place behind them, and the buffer behind their answers as it was. With as
-- many bytes free as any answer has, no answer is without room; what is answered are the bytes up to the place.
pub record Reaches (block : List ℕ) (from free : ℕ) (q : Progress) (x : Whole) (out : List ℕ) (r : Answered) (w : Memory) (out' : List ℕ) : Type 0 where
  pub later : from ≤ r.at
  pub inside : r.at ≤ length block
  pub going : Going r.position w out'
  pub is : progress_of r.position w out' ≡ x.progress
  pub left : lines_of (drop r.at block) ≡ record { whole = x.left; rest = (lines_of (drop from block)).rest }
  pub full : r.full ≡ x.full
  pub never : most_bytes ≤ free → r.full ≡ false
  pub bytes : r.full ≡ false → on_bytes (fresh q) (take (r.at - from) (drop from block)) ≡ fresh (progress_of r.position w out')
  pub lines : r.position.lines + (length block - r.at) ≤ q.lines + (length block - from)
  pub behind : drop r.position.end out' ≡ drop r.position.end out

-- where listings begin behind the lines that are answered; before the run, the numbers of the value, which is none yet, stay
pub record CarriedOver (block : List ℕ) (from free : ℕ) (q : Progress) (first : Position) (w : Memory) (out : List ℕ) (r : Answered) (w' : Memory) : Type 0 where
  pub starts : (s : Slot) → has_start (session_of r.position.numbers w') s ≡ true
      → starts_of r.position.numbers w' s ≡ starts_from free (length out) q (lines_of (drop from block)).whole (starts_of first.numbers w) s
  pub idle : r.position.numbers.part ≡ Model → r.position.numbers.held ≡ first.numbers.held

-- what the whole lines of a block from a place on are answered
abbrev pub whole_of : List ℕ → ℕ → ℕ → Progress → List ℕ → Whole
whole_of block from free q out = whole_from free (length out) q (lines_of (drop from block)).whole

-- ===== One line more =====

-- where the next line ends that is to be answered, or the end of the block where there is none
unfoldable pub next_end : List ℕ → Answered → ℕ → ℕ → ℕ
unfolding line_length
next_end block r free room =
    cond r.full (length block)
    (cond (leb (r.position.end + free) room) (r.at + line_length (drop r.at block)) (length block))

-- where a reply leads, if its answer has room or has none
abbrev pub behind_reply : Option ℕ → Numbers → ℕ → Bool → ℕ → Answered → Answered
behind_reply (Some e) n number met next r = record { at = next; position = record { numbers = n; lines = number; met = met; end = e }; full = false }
behind_reply None n number met next r = record {
  at = r.at;
  position = record { numbers = n; lines = r.position.lines; met = r.position.met; end = r.position.end };
  full = true;
}

-- one line is answered, behind which the block goes on at a place
pub record Steps (l : List ℕ) (next : ℕ) (r : Answered) (q : Progress) (out : List ℕ) (r' : Answered) (w : Memory) (out' : List ℕ) : Type 0 where
  pub going : Going r'.position w out'
  pub full : r'.full ≡ not (fits (length out) (after_line q l).bytes)
  pub place : r'.at ≡ cond (fits (length out) (after_line q l).bytes) next r.at
  pub is : progress_of r'.position w out' ≡ cond (fits (length out) (after_line q l).bytes) (after_line q l) (unwritten q l)
  pub short : length (after_line q l).bytes ≤ length q.bytes + most_bytes
  pub behind : drop r'.position.end out' ≡ drop r'.position.end out

-- the end of a text of so many bytes behind its whole lines
pub record Ending (long : ℕ) (r : Answered) (out : List ℕ) : Type 0 where
  pub inside : r.at ≤ long
  pub within : r.position.end ≤ length out
  pub lines : r.position.lines < most_lines
