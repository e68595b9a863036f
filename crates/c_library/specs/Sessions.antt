-- A session that a host keeps in words: its numbers beside the other lent words.
use Rattle.std.specs.Prelude.{◌≡◌, Bool, true, false, ◌&&◌, List, [], ◌++◌, ℕ, ◌+◌, ◌≤◌, leb, eqb, length, get_or, drop}
use Rattle.label.specs.Limits.{predicate_count}
use Rattle.diagram.specs.Sizes.{result_words}
use Rattle.names.specs.Layout.{name_words}
use Rattle.model.specs.Layout.{listing_words, table_words}
use Rattle.facts.specs.Words.{state_words}
use Rattle.answers.specs.Writing.{most_bytes}
use Rattle.session.specs.declared.Part.TheVariants.{Model}
use Rattle.session.specs.Session.{opening}
use Rattle.session.specs.Texts.{Progress, after_line, lines_of, closing}
use Rattle.model_entry.specs.Starts.{Slot, SlotStarts, has_start, starts_behind}
use Rattle.memory.specs.Memory.{Memory, memory_of, session_of, starts_of, Rooms, work_words, opening_numbers}
use Rattle.memory.specs.Saving.{number_words, saved_words, numbers_at, lines_at, met_at}
use Rattle.texts.specs.Sending.{most_lines}
use Rattle.texts.specs.Whole.{Whole, whole_from, starts_from}
use Rattle.restoring.specs.Restoring.{is_session}
use Rattle.restoring.specs.Words.{SameWords}
use Rattle.c_library.specs.Answers.{room_number, entry_number}

-- ===== Opening =====

-- the words of numbers are enough, those of arities and state are as many as they take
abbrev pub has_room : ℕ → ℕ → ℕ → Bool
has_room numbers arities state = leb number_words numbers && (eqb arities predicate_count && eqb state state_words)

-- the words are the opening session, and pass the test of a session's, whatever the other words are, if they have their room; the numbers are those before
-- the first line, and the words behind them stay
pub record IsOpen (numbers arities state numbers' arities' state' : List ℕ) : Type 0 where
  pub session : (names listings table value : List ℕ) → Rooms (memory_of names arities listings table state value)
      → session_of (numbers_at numbers') (memory_of names arities' listings table state' value) ≡ opening
  pub again : (names listings table value : List ℕ) → Rooms (memory_of names arities listings table state value)
      → is_session (numbers_at numbers') (memory_of names arities' listings table state' value) ≡ true
  pub numbers-are : numbers' ≡ saved_words opening_numbers 0 false ++ drop number_words numbers

-- nothing is done
pub record IsLeft (numbers arities state numbers' arities' state' : List ℕ) : Type 0 where
  pub numbers-left : numbers' ≡ numbers
  pub arities-left : arities' ≡ arities
  pub state-left : state' ≡ state

abbrev pub OpenOrLeft : Bool → List ℕ → List ℕ → List ℕ → List ℕ → List ℕ → List ℕ → Type 0
OpenOrLeft true = IsOpen
OpenOrLeft false = IsLeft

-- opening a session
pub record Opens (numbers arities state : List ℕ) (r : ℕ) (numbers' arities' state' : List ℕ) : Type 0 where
  pub answer : r ≡ room_number (has_room (length numbers) (length arities) (length state))
  pub does : OpenOrLeft (has_room (length numbers) (length arities) (length state)) numbers arities state numbers' arities' state'

-- ===== Lines =====

-- the working space is enough, and the buffer takes any answer
abbrev pub can_answer : List ℕ → List ℕ → Bool
can_answer work answer = leb work_words (length work) && leb most_bytes (length answer)

-- the words of numbers are enough; every other table has exactly its words, so that none stand behind them
abbrev pub has_rooms : ℕ → ℕ → ℕ → ℕ → ℕ → ℕ → ℕ → Bool
has_rooms numbers names arities listings table state value =
    leb number_words numbers
    && (eqb names name_words
    && (eqb arities predicate_count && (eqb listings listing_words && (eqb table table_words && (eqb state state_words && eqb value result_words)))))

-- what is told by 0 or 1, as memory Saving lays it out: the part, the three single forms, and whether a line had bytes
abbrev pub is_plain : List ℕ → Bool
is_plain numbers =
    leb (get_or numbers 0 0) 1
    && (leb (get_or numbers 1 0) 1 && (leb (get_or numbers 2 0) 1 && (leb (get_or numbers 3 0) 1 && leb (get_or numbers 25 0) 1)))

-- the words are a session's, which can count so many lines more
abbrev pub is_open : List ℕ → Memory → ℕ → Bool
is_open numbers w more =
    has_rooms (length numbers) (length w.names) (length w.arities) (length w.listings) (length w.table) (length w.state) (length w.value)
    && (is_plain numbers && (is_session (numbers_at numbers) w && leb (lines_at numbers + more) most_lines))

-- how far the session is, its answers given away
abbrev pub progress_at : List ℕ → Memory → Progress
progress_at numbers w = record { session = session_of (numbers_at numbers) w; lines = lines_at numbers; met = met_at numbers; bytes = [] }

-- where the listings of its model begin
abbrev pub starts_at : List ℕ → Memory → SlotStarts
starts_at numbers w = starts_of (numbers_at numbers) w

-- the words are the session behind the lines, the listings of its model begin where `at` says, and they pass the test again; the answers' bytes stand in front of
-- the buffer; the words behind the numbers and the bytes behind the answers stay, and before the run so do the numbers of the value, which is none yet.
-- This fixes every word in use (restoring, specs/Words): the others are the session's own working space.
pub record IsAnswered (q : Progress) (at : SlotStarts) (numbers answer : List ℕ) (numbers' : List ℕ) (w' : Memory) (answer' : List ℕ) (bytes' : ℕ) : Type 0 where
  pub session : session_of (numbers_at numbers') w' ≡ q.session
  pub starts : (s : Slot) → has_start q.session s ≡ true → starts_at numbers' w' s ≡ at s
  pub idle : q.session.part ≡ Model → (numbers_at numbers').held ≡ (numbers_at numbers).held
  pub again : is_session (numbers_at numbers') w' ≡ true
  pub saved : numbers' ≡ saved_words (numbers_at numbers') q.lines q.met ++ drop number_words numbers
  pub buffer : answer' ≡ q.bytes ++ drop (length q.bytes) answer
  pub byte-count : bytes' ≡ length q.bytes

-- nothing is done
pub record IsUntouched (numbers : List ℕ) (w : Memory) (answer : List ℕ) (bytes : ℕ) (numbers' : List ℕ) (w' : Memory) (answer' : List ℕ) (bytes' : ℕ) : Type 0 where
  pub numbers-left : numbers' ≡ numbers
  pub memory-left : w' ≡ w
  pub answer-left : answer' ≡ answer
  pub bytes_left : bytes' ≡ bytes

abbrev pub DoneOrLeft : Bool → Type 0 → Type 0 → Type 0
DoneOrLeft true P Q = P
DoneOrLeft false P Q = Q

-- where listings begin behind a line
abbrev pub starts_after : List ℕ → List ℕ → Memory → SlotStarts
starts_after line numbers w = starts_behind (progress_at numbers w).session (after_line (progress_at numbers w) line).session (starts_at numbers w)

-- the next line of a session, on all words
pub record Replies (line numbers : List ℕ) (w : Memory) (work answer : List ℕ) (bytes r : ℕ) (numbers' : List ℕ) (w' : Memory) (answer' : List ℕ) (bytes' : ℕ) : Type 0 where
  pub number : r ≡ entry_number (is_open numbers w 1) (can_answer work answer)
  pub does : DoneOrLeft (is_open numbers w 1 && can_answer work answer)
      (IsAnswered (after_line (progress_at numbers w) line) (starts_after line numbers w) numbers answer numbers' w' answer' bytes')
      (IsUntouched numbers w answer bytes numbers' w' answer' bytes')

-- the whole lines of a block, one after another, as long as the buffer takes any answer more
abbrev pub answered_lines : List ℕ → List ℕ → Memory → List ℕ → Whole
answered_lines block numbers w answer = whole_from most_bytes (length answer) (progress_at numbers w) (lines_of block).whole

-- where listings begin behind them
abbrev pub answered_starts : List ℕ → List ℕ → Memory → List ℕ → SlotStarts
answered_starts block numbers w answer = starts_from most_bytes (length answer) (progress_at numbers w) (lines_of block).whole (starts_at numbers w)

-- they are answered; no answer was without room; behind the bytes that were read stand the lines that are left, and the rest of the block
pub record AreAnswered (block : List ℕ) (x : Whole) (at : SlotStarts) (numbers answer : List ℕ) (numbers' : List ℕ) (w' : Memory) (answer' : List ℕ) (bytes' read' : ℕ) : Type 0 where
  pub answered : IsAnswered x.progress at numbers answer numbers' w' answer' bytes'
  pub fits : x.full ≡ false
  pub inside : read' ≤ length block
  pub left : lines_of (drop read' block) ≡ record { whole = x.left; rest = (lines_of block).rest }

-- nothing is done
pub record AreUntouched (numbers : List ℕ) (w : Memory) (answer : List ℕ) (bytes read : ℕ) (numbers' : List ℕ) (w' : Memory) (answer' : List ℕ) (bytes' read' : ℕ) : Type 0 where
  pub untouched : IsUntouched numbers w answer bytes numbers' w' answer' bytes'
  pub read_left : read' ≡ read

-- the next lines of a session, on all words
pub record RepliesAll (block numbers : List ℕ) (w : Memory) (work answer : List ℕ) (bytes read r : ℕ) (numbers' : List ℕ) (w' : Memory) (answer' : List ℕ) (bytes' read' : ℕ) : Type 0 where
  pub number : r ≡ entry_number (is_open numbers w (length block)) (can_answer work answer)
  pub does : DoneOrLeft (is_open numbers w (length block) && can_answer work answer)
      (AreAnswered block (answered_lines block numbers w answer) (answered_starts block numbers w answer) numbers answer numbers' w' answer' bytes' read')
      (AreUntouched numbers w answer bytes read numbers' w' answer' bytes' read')

-- two outcomes of a call: what it answers, the numbers, the words in use, the buffer and the count told are the same
pub record SameOutcome (r : ℕ) (numbers : List ℕ) (w : Memory) (answer : List ℕ) (bytes k : ℕ) (others : List ℕ) (v : Memory) (answers : List ℕ) (count : ℕ) : Type 0 where
  pub number_same : r ≡ k
  pub numbers-same : numbers ≡ others
  pub words_same : SameWords (numbers_at numbers) w (numbers_at others) v
  pub answer-same : answer ≡ answers
  pub bytes_same : bytes ≡ count

-- ===== The end =====

-- the numbers can be a session's
abbrev pub can_close : List ℕ → Bool
can_close numbers = leb number_words (length numbers) && is_plain numbers

-- what closes a text that ends behind these numbers
abbrev pub closing_at : List ℕ → List ℕ
closing_at numbers = closing (numbers_at numbers).part (met_at numbers)

-- the closing answer is put in front of the buffer
pub record IsClosed (numbers answer answer' : List ℕ) (bytes' : ℕ) : Type 0 where
  pub buffer : answer' ≡ closing_at numbers ++ drop (length (closing_at numbers)) answer
  pub byte-count : bytes' ≡ length (closing_at numbers)

-- nothing is done
pub record IsUnclosed (answer : List ℕ) (bytes : ℕ) (answer' : List ℕ) (bytes' : ℕ) : Type 0 where
  pub answer-left : answer' ≡ answer
  pub bytes_left : bytes' ≡ bytes

-- closing a session, on all words; the session stays. The buffer has to take any answer.
pub record Closes (numbers answer : List ℕ) (bytes r : ℕ) (answer' : List ℕ) (bytes' : ℕ) : Type 0 where
  pub number : r ≡ entry_number (can_close numbers) (leb most_bytes (length answer))
  pub does : DoneOrLeft (can_close numbers && leb most_bytes (length answer)) (IsClosed numbers answer answer' bytes') (IsUnclosed answer bytes answer' bytes')
