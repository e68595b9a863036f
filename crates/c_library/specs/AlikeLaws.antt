-- Words of a session's tables that are not in use take no part: sessions' words that are one session are answered alike, and are one session again.
use Rattle.std.specs.Prelude.{◌≡◌, Bool, true, ◌&&◌, List, [], ◌++◌, ℕ, length, drop}
use Rattle.std.proofs.Common.{sym, ap, subst, ◌∙◌}
use Rattle.session.specs.Session.{Session}
use Rattle.session.specs.Texts.{Progress, lines_of}
use Rattle.model_entry.specs.Starts.{SlotStarts}
use Rattle.memory.specs.Memory.{Memory}
use Rattle.memory.specs.Saving.{number_words, numbers_at, lines_at, met_at}
use Rattle.memory.specs.SavingLaws.{saved-lines, saved-met}
use Rattle.answers.specs.Writing.{most_bytes}
use Rattle.texts.specs.Whole.{whole_from}
use Rattle.c_library.specs.Sessions.{can_answer, is_open, progress_at, IsAnswered, DoneOrLeft, answered_lines, answered_starts, AreAnswered, AreUntouched, RepliesAll}

progress-same : {a b : Session} {k l : ℕ} {p q : Bool} → a ≡ b → k ≡ l → p ≡ q
    → ◌≡◌ {A = Progress} (record { session = a; lines = k; met = p; bytes = [] }) (record { session = b; lines = l; met = q; bytes = [] })
progress-same e f g = rw (e, f, g)

-- how far the session is behind lines that are answered
behind : {q : Progress} {at : SlotStarts} {numbers answer numbers' answer' : List ℕ} {w' : Memory} {bytes' : ℕ} → IsAnswered q at numbers answer numbers' w' answer' bytes'
    → progress_at numbers' w' ≡ record { session = q.session; lines = q.lines; met = q.met; bytes = [] }
behind {q} {at} {numbers} {answer} {numbers'} a =
    let n = numbers_at numbers' in
    let t : List ℕ = drop number_words numbers in
    progress-same a.session (ap lines_at a.saved ∙ saved-lines n q.lines q.met t) (ap met_at a.saved ∙ saved-met n q.lines q.met t)

-- where the words are a session's and there is room, the lines of a block are answered
both : (a b : Bool) → a ≡ true → b ≡ true → (a && b) ≡ true
both a b e f = rw (e, f)

answered : {block numbers work answer numbers' answer' : List ℕ} {w w' : Memory} {bytes read r bytes' read' : ℕ}
    → RepliesAll block numbers w work answer bytes read r numbers' w' answer' bytes' read' → is_open numbers w (length block) ≡ true → can_answer work answer ≡ true
    → AreAnswered block (answered_lines block numbers w answer) (answered_starts block numbers w answer) numbers answer numbers' w' answer' bytes' read'
answered {block} {numbers} {work} {answer} {numbers'} {answer'} {w} {w'} {bytes} {read} {r} {bytes'} {read'} x e f =
    subst (λ z. DoneOrLeft z (AreAnswered block (answered_lines block numbers w answer) (answered_starts block numbers w answer) numbers answer numbers' w' answer' bytes' read')
    (AreUntouched numbers w answer bytes read numbers' w' answer' bytes' read')) (both (is_open numbers w (length block)) (can_answer work answer) e f) x.does

module _ {block answer : List ℕ} {bytes read : ℕ}
    {numbers work numbers' answer' : List ℕ} {w w' : Memory} {r bytes' read' : ℕ}
    {others space others' answer'' : List ℕ} {v v' : Memory} {s bytes'' read'' : ℕ}
    (x : RepliesAll block numbers w work answer bytes read r numbers' w' answer' bytes' read')
    (y : RepliesAll block others v space answer bytes read s others' v' answer'' bytes'' read'')
    (here : is_open numbers w (length block) ≡ true) (there : is_open others v (length block) ≡ true)
    (room : can_answer work answer ≡ true) (too : can_answer space answer ≡ true)
    (one : progress_at numbers w ≡ progress_at others v) where
  first : AreAnswered block (answered_lines block numbers w answer) (answered_starts block numbers w answer) numbers answer numbers' w' answer' bytes' read'
  first = answered x here room

  second : AreAnswered block (answered_lines block others v answer) (answered_starts block others v answer) others answer others' v' answer'' bytes'' read''
  second = answered y there too

  same : answered_lines block numbers w answer ≡ answered_lines block others v answer
  same = ap (λ p. whole_from most_bytes (length answer) p (lines_of block).whole) one

  -- the same bytes are answered
  pub alike-answers : answer' ≡ answer''
  alike-answers =
      first.answered.buffer ∙ ap (λ q. q.progress.bytes ++ drop (length q.progress.bytes) answer) same ∙ sym second.answered.buffer

  -- as many of them
  pub alike-bytes : bytes' ≡ bytes''
  alike-bytes = first.answered.byte-count ∙ ap (λ q. length q.progress.bytes) same ∙ sym second.answered.byte-count

  -- the same lines are left
  pub alike-left : lines_of (drop read' block) ≡ lines_of (drop read'' block)
  alike-left = first.left ∙ ap (λ q. record { whole = q.left; rest = (lines_of block).rest }) same ∙ sym second.left

  -- and behind them the words are one session again
  pub alike-sessions : progress_at numbers' w' ≡ progress_at others' v'
  alike-sessions =
      behind first.answered
      ∙ ap (λ q. record { session = q.progress.session; lines = q.progress.lines; met = q.progress.met; bytes = [] }) same
      ∙ sym (behind second.answered)
