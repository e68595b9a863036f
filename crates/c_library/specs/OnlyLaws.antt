-- What a session's call promises is all that it can do: two runs on the same lent words answer the same, write the same bytes, and leave the same words, but for
-- the working space (restoring, specs/Words: the words in use).
use Rattle.std.specs.Prelude.{◌≡◌, refl, Bool, true, false, cond, ◌&&◌, List, [], ◌∷◌, ◌++◌, ℕ, suc, ◌+◌, ◌≤◌, leb, eqb, length, drop}
use Rattle.std.proofs.Math.Path.{sym, subst}
use Rattle.std.proofs.Common.{ap, ◌∙◌, arith, length-drop}
use Rattle.session.specs.declared.Part.{Part}
use Rattle.session.specs.declared.Part.TheVariants.{Model, Run}
use Rattle.session.specs.Session.{Session}
use Rattle.session.specs.Texts.{line_feed, Lines, behind_byte, lines_of, Progress, after_line}
use Rattle.model_entry.specs.Starts.{SlotStarts, has_start}
use Rattle.memory.specs.declared.Numbers.{Numbers}
use Rattle.memory.specs.Memory.{Memory, session_of}
use Rattle.memory.specs.Saving.{number_words, part_word, flag_word, saved_words, numbers_at}
use Rattle.restoring.specs.KeptLaws.{session-is}
use Rattle.restoring.specs.Words.{SameWords}
use Rattle.restoring.specs.SameLaws.{same-words, same_refl}
use Rattle.c_library.specs.Sessions.{is_plain, can_answer, is_open, progress_at, IsAnswered, IsUntouched, DoneOrLeft, starts_after, Replies, answered_lines, answered_starts, AreAnswered}
use Rattle.c_library.specs.Sessions.{AreUntouched, RepliesAll, SameOutcome}

module _ {q : Progress} {at : SlotStarts} {numbers answer numbers' answer' others' answers' : List ℕ} {w' v' : Memory} {bytes' count' : ℕ}
    (x : IsAnswered q at numbers answer numbers' w' answer' bytes') (y : IsAnswered q at numbers answer others' v' answers' count') where
  part-here : q.session.part ≡ Model → (numbers_at numbers').held ≡ (numbers_at others').held
  part-here e = x.idle e ∙ sym (y.idle e)

  same_here : SameWords (numbers_at numbers') w' (numbers_at others') v'
  unfolding session_of
  same_here =
      same-words ((session-is (numbers_at numbers') w').yes x.again) ((session-is (numbers_at others') v').yes y.again) (x.session ∙ sym y.session)
      (λ s h. let k = subst (λ (σ : Session). has_start σ s ≡ true) x.session h in x.starts s k ∙ sym (y.starts s k))
      (λ e. part-here (sym (ap (λ (σ : Session). σ.part) x.session) ∙ e))

  answered-only : {r k : ℕ} → r ≡ k → SameOutcome r numbers' w' answer' bytes' k others' v' answers' count'
  answered-only e = record {
    number_same = e;
    numbers-same =
        x.saved ∙ ap (λ (n : Numbers). saved_words n q.lines q.met ++ drop number_words numbers) same_here.numbers ∙ sym y.saved;
    words_same = same_here;
    answer-same = x.buffer ∙ sym y.buffer;
    bytes_same = x.byte-count ∙ sym y.byte-count;
  }

-- nothing is done
untouched-only : {numbers answer numbers' answer' others' answers' : List ℕ} {w w' v' : Memory} {bytes bytes' count' r k : ℕ}
    → IsUntouched numbers w answer bytes numbers' w' answer' bytes' → IsUntouched numbers w answer bytes others' v' answers' count' → r ≡ k
    → SameOutcome r numbers' w' answer' bytes' k others' v' answers' count'
untouched-only {numbers' = numbers'} {w' = w'} {v' = v'} x y e =
    let n = x.numbers-left ∙ sym y.numbers-left in
    let m = x.memory-left ∙ sym y.memory-left in
    record {
      number_same = e;
      numbers-same = n;
      words_same = subst (λ (s : List ℕ). SameWords (numbers_at numbers') w' (numbers_at s) v') n
          (subst (λ (v : Memory). SameWords (numbers_at numbers') w' (numbers_at numbers') v) m (same_refl (numbers_at numbers') w'));
      answer-same = x.answer-left ∙ sym y.answer-left;
      bytes_same = x.bytes_left ∙ sym y.bytes_left;
    }

-- ===== What is told by 0 or 1 =====

part-plain : (p : Part) → leb (part_word p) 1 ≡ true
part-plain Model = refl
part-plain Run = refl

flag-plain : (b : Bool) → leb (flag_word b) 1 ≡ true
flag-plain true = refl
flag-plain false = refl

saved-plain : (n : Numbers) (lines : ℕ) (met : Bool) (t : List ℕ) → is_plain (saved_words n lines met ++ t) ≡ true
unfolding saved_words
saved-plain n lines met t = rw (part-plain n.part, flag-plain n.total, flag-plain n.discount, flag-plain n.reward) (flag-plain met)

-- numbers behind lines tell it so: with `again`, all of the test but sizes and the count of lines
pub answered-plain : {q : Progress} {at : SlotStarts} {numbers answer numbers' answer' : List ℕ} {w' : Memory} {bytes' : ℕ}
    → IsAnswered q at numbers answer numbers' w' answer' bytes' → is_plain numbers' ≡ true
answered-plain {q} {at} {numbers} {answer} {numbers'} x =
    ap is_plain x.saved ∙ saved-plain (numbers_at numbers') q.lines q.met (drop number_words numbers)

-- ===== How much of a block is read =====

-- the bytes of lines, their line feeds, and the bytes behind them
abbrev wide : List (List ℕ) → List ℕ → ℕ
wide [] rest = length rest
wide (l ∷ ls) rest = suc (length l) + wide ls rest

wide-byte : (b : ℕ) (ls : List (List ℕ)) (rest : List ℕ) → wide (behind_byte b ls rest).whole (behind_byte b ls rest).rest ≡ suc (wide ls rest)
wide-byte b [] rest = refl
wide-byte b (l ∷ ls) rest = omega arith

lines-wide : (s : List ℕ) → wide (lines_of s).whole (lines_of s).rest ≡ length s
unfolding lines_of
lines-wide [] = refl
lines-wide (b ∷ s) = go (eqb b line_feed) (lines-wide s)
  where
    go : (x : Bool) → wide (lines_of s).whole (lines_of s).rest ≡ length s
        → wide (cond x (record { whole = [] ∷ (lines_of s).whole; rest = (lines_of s).rest }) (behind_byte b (lines_of s).whole (lines_of s).rest)).whole
        (cond x (record { whole = [] ∷ (lines_of s).whole; rest = (lines_of s).rest }) (behind_byte b (lines_of s).whole (lines_of s).rest)).rest ≡ suc (length s)
    go true e = omega (arith, e)
    go false e = wide-byte b (lines_of s).whole (lines_of s).rest ∙ ap suc e

-- lines tell how many bytes there are
wide-same : (s t : List ℕ) → lines_of s ≡ lines_of t → length s ≡ length t
wide-same s t e = sym (lines-wide s) ∙ ap (λ (x : Lines). wide x.whole x.rest) e ∙ lines-wide t

read_same : (block : List ℕ) (a b : ℕ) → a ≤ length block → b ≤ length block → lines_of (drop a block) ≡ lines_of (drop b block) → a ≡ b
read_same block a b h l e = omega (arith, wide-same (drop a block) (drop b block) e, length-drop a block, length-drop b block)

-- ===== The calls =====

module _ {line numbers work answer numbers' answer' others' answers' : List ℕ} {w w' v' : Memory} {bytes r k bytes' count' : ℕ}
    (x : Replies line numbers w work answer bytes r numbers' w' answer' bytes') (y : Replies line numbers w work answer bytes k others' v' answers' count') where
  -- a line
  pub line-only : SameOutcome r numbers' w' answer' bytes' k others' v' answers' count'
  line-only = go (is_open numbers w 1 && can_answer work answer) x.does y.does
    where
      go : (b : Bool)
          → DoneOrLeft b (IsAnswered (after_line (progress_at numbers w) line) (starts_after line numbers w) numbers answer numbers' w' answer' bytes')
          (IsUntouched numbers w answer bytes numbers' w' answer' bytes')
          → DoneOrLeft b (IsAnswered (after_line (progress_at numbers w) line) (starts_after line numbers w) numbers answer others' v' answers' count')
          (IsUntouched numbers w answer bytes others' v' answers' count')
          → SameOutcome r numbers' w' answer' bytes' k others' v' answers' count'
      go true c d = answered-only c d (x.number ∙ sym y.number)
      go false c d = untouched-only c d (x.number ∙ sym y.number)

module _ {block numbers work answer numbers' answer' others' answers' : List ℕ} {w w' v' : Memory} {bytes read r k bytes' count' read' end' : ℕ}
    (x : RepliesAll block numbers w work answer bytes read r numbers' w' answer' bytes' read')
    (y : RepliesAll block numbers w work answer bytes read k others' v' answers' count' end') where
  -- the lines of a block, and how much of it is read
  pub lines-only : SameOutcome r numbers' w' answer' bytes' k others' v' answers' count' × (read' ≡ end')
  lines-only = go (is_open numbers w (length block) && can_answer work answer) x.does y.does
    where
      go : (b : Bool)
          → DoneOrLeft b (AreAnswered block (answered_lines block numbers w answer) (answered_starts block numbers w answer) numbers answer numbers' w' answer' bytes' read')
          (AreUntouched numbers w answer bytes read numbers' w' answer' bytes' read')
          → DoneOrLeft b (AreAnswered block (answered_lines block numbers w answer) (answered_starts block numbers w answer) numbers answer others' v' answers' count' end')
          (AreUntouched numbers w answer bytes read others' v' answers' count' end')
          → SameOutcome r numbers' w' answer' bytes' k others' v' answers' count' × (read' ≡ end')
      go true c d =
          (answered-only c.answered d.answered (x.number ∙ sym y.number), read_same block read' end' c.inside d.inside (c.left ∙ sym d.left))
      go false c d = (untouched-only c.untouched d.untouched (x.number ∙ sym y.number), c.read_left ∙ sym d.read_left)
