-- Laws of a text that comes in: in whatever blocks, its answers are those of the whole text.
use Rattle.std.specs.Prelude.{◌≡◌, refl, Bool, true, false, cond, not, List, [], ◌∷◌, ◌++◌, ℕ, suc, ◌+◌, ◌≤◌, ◌<◌, length, take, eqb, ltb}
use Rattle.std.proofs.Common.{sym, ap, ap₂, ◌∙◌, append-nil, append_assoc, arith, ltb-false, take_all, take_at, take-take, take-suc, length-take-le}
use Rattle.std.proofs.Math.Decide.{dec_lt}
use Rattle.std.proofs.lemmas.Bool.{lt-leb}
use Rattle.std.proofs.lemmas.List.{take-append-le}
use Rattle.refusal.specs.declared.Refusal.TheVariants.{Form}
use Rattle.text.specs.declared.Kind.{Kind}
use Rattle.text.specs.declared.Kind.TheVariants as K
use Rattle.text.specs.LineForm.{line_kind}
use Rattle.events.specs.declared.Event.{Event}
use Rattle.session.specs.declared.Part.{Part}
use Rattle.session.specs.declared.Part.TheVariants.{Model, Run}
use Rattle.session.specs.Session.{Session}
use Rattle.session.specs.Place.{rule_of}
use Rattle.session.specs.Replies.{allowed, at_place, done, reply_to, reply, refusal, words_of}
use Rattle.session.specs.Texts.{line_feed, Lines, behind_byte, lines_of, has_bytes, Progress, reply_bytes, closing, replied, after_line, after_lines, after_rest, beginning, text_answers}
use Rattle.texts.specs.Ends.{line_length}
use Rattle.texts.specs.LineLaws.{line-within, line-whole, line-ends, line-front}
use Rattle.texts.specs.Running.{all_bytes}
use Rattle.texts.specs.Inner.{behind_written, rest_of}
use Rattle.texts.specs.Streaming.{line_room, Stream, fresh, on_byte, on_bytes, on_blocks, joined, stream_start, on_end}

-- ===== A line that is too long =====

kind-long : (s : List ℕ) → 4095 < length s → line_kind s ≡ K.Bad
unfolding line_kind
kind-long s h = rw (lt-leb (length s) 4095 h)

bad-refused : (σ : Session) (number : ℕ) (es : List Event) → reply_to σ number K.Bad es ≡ refusal σ number Form
unfolding reply_to allowed
bad-refused σ number es = go σ.part
  where
    go : (p : Part) → at_place σ number (allowed σ (rule_of K.Bad p)) (done σ number K.Bad es) ≡ refusal σ number Form
    go Model = refl
    go Run = refl

reply-long : (σ : Session) (number : ℕ) (s : List ℕ) → 4095 < length s → reply σ number s ≡ refusal σ number Form
unfolding reply
reply-long σ number [] h = absurd (omega arith)
reply-long σ number (b ∷ t) h =
    let s = b ∷ t in
    ap (λ (k : Kind). reply_to σ number k (words_of k s)) (kind-long s h) ∙ bad-refused σ number (words_of K.Bad s)

-- so the bytes past the room do not count
reply-kept : (σ : Session) (number : ℕ) (s : List ℕ) → reply σ number (take line_room s) ≡ reply σ number s
reply-kept σ number s = go (dec_lt line_room (length s))
  where
    go : Dec (line_room < length s) → reply σ number (take line_room s) ≡ reply σ number s
    go (yes h) =
        reply-long σ number (take line_room s) (omega (arith, length-take-le line_room s (omega arith))) ∙ sym (reply-long σ number s (omega arith))
    go (no h) = ap (reply σ number) (take_all line_room s (omega arith))

has_kept : (s : List ℕ) → has_bytes (take line_room s) ≡ has_bytes s
has_kept [] = refl
has_kept (b ∷ s) = refl

pub after_kept : (p : Progress) (s : List ℕ) → after_line p (take line_room s) ≡ after_line p s
unfolding after_line
after_kept p s = ap₂ (replied p) (has_kept s) (reply-kept p.session (suc p.lines) s)

rest-kept : (p : Progress) (s : List ℕ) → after_rest p (take line_room s) ≡ after_rest p s
unfolding after_rest
rest-kept p [] = refl
rest-kept p (b ∷ s) = refl

-- what is kept of kept bytes and others behind them
pub take_again : (n : ℕ) (x y : List ℕ) → take n (take n x ++ y) ≡ take n (x ++ y)
take_again n x y = go (dec_lt (length x) n)
  where
    go : Dec (length x < n) → take n (take n x ++ y) ≡ take n (x ++ y)
    go (yes h) = ap (λ (z : List ℕ). take n (z ++ y)) (take_all n x (omega arith))
    go (no h) = take_at (take n x) y n (length-take-le n x (omega arith)) ∙ sym (take-append-le n x y (omega arith))

-- ===== Bytes of a line =====

-- a line's bytes are kept
pub on_line : (q : Progress) (x s : List ℕ) → length x ≤ line_room → line_length s ≡ length s
    → on_bytes (record { progress = q; partial = x }) s ≡ record { progress = q; partial = take line_room (x ++ s) }
unfolding on_bytes on_byte line_length
on_line q x [] h e = ap (λ (z : List ℕ). record { progress = q; partial = z }) (sym (ap (take line_room) (append-nil x) ∙ take_all line_room x h))
on_line q x (b ∷ s) h e = go (eqb b line_feed) (λ (k : line_length s ≡ length s). on_line q (take line_room (x ++ (b ∷ []))) s (kept-short (x ++ (b ∷ []))) k) e
  where
    kept-short : (y : List ℕ) → length (take line_room y) ≤ line_room
    kept-short y = short (dec_lt (length y) line_room)
      where
        short : Dec (length y < line_room) → length (take line_room y) ≤ line_room
        short (yes l) = omega (arith, ap length (take_all line_room y (omega arith)))
        short (no l) = omega (arith, length-take-le line_room y (omega arith))

    go : (t : Bool)
        → (line_length s ≡ length s
        → on_bytes (record { progress = q; partial = take line_room (x ++ (b ∷ [])) }) s
        ≡ record { progress = q; partial = take line_room (take line_room (x ++ (b ∷ [])) ++ s) })
        → cond (not t) (suc (line_length s)) 0 ≡ suc (length s)
        → on_bytes (cond t (record { progress = after_line q x; partial = [] }) (record { progress = q; partial = take line_room (x ++ (b ∷ [])) })) s
        ≡ record { progress = q; partial = take line_room (x ++ (b ∷ s)) }
    go true ih k = absurd (omega arith)
    go false ih k =
        ih (omega arith)
        ∙ ap (λ (z : List ℕ). record { progress = q; partial = z }) (take_again line_room (x ++ (b ∷ [])) s ∙ ap (take line_room) (append_assoc x (b ∷ []) s))

-- a line feed ends it
feed-ends : (p : Progress) (u : List ℕ) → on_bytes (record { progress = p; partial = u }) (line_feed ∷ []) ≡ fresh (after_line p u)
unfolding on_bytes on_byte
feed-ends p u = refl

pub bytes-append : (t : Stream) (x y : List ℕ) → on_bytes t (x ++ y) ≡ on_bytes (on_bytes t x) y
unfolding on_bytes
bytes-append t [] y = refl
bytes-append t (b ∷ x) y = bytes-append (on_byte t b) x y

-- a whole line is answered
pub whole-line : (q : Progress) (s : List ℕ) → line_length s < length s → on_bytes (fresh q) (take (suc (line_length s)) s) ≡ fresh (after_line q (take (line_length s) s))
whole-line q s h =
    let l : List ℕ = take (line_length s) s in
    let t : take (suc (line_length s)) s ≡ l ++ (line_feed ∷ []) = take-suc s (line_length s) 0 h ∙ ap (λ (b : ℕ). l ++ (b ∷ [])) (line-ends s h) in
    ap (on_bytes (fresh q)) t ∙ bytes-append (fresh q) l (line_feed ∷ [])
    ∙ ap (λ (u : Stream). on_bytes u (line_feed ∷ [])) (on_line q [] l (omega arith) (line-whole s))
    ∙ feed-ends q (take line_room l) ∙ ap fresh (after_kept q l)

-- the bytes that are not kept do not count
pub rest-line : (q : Progress) (s : List ℕ) → on_bytes (fresh q) (rest_of s) ≡ on_bytes (fresh q) s
unfolding rest_of
rest-line q s = go (ltb (line_length s) (length s)) refl
  where
    go : (b : Bool) → ltb (line_length s) (length s) ≡ b → on_bytes (fresh q) (cond b s (take line_room s)) ≡ on_bytes (fresh q) s
    go true e = refl
    go false e =
        let h : line_length s ≡ length s = omega (arith, ltb-false (line_length s) (length s) e, line-within s) in
        on_line q [] (take line_room s) (omega arith) (line-front line_room s h)
        ∙ ap (λ (x : List ℕ). record { progress = q; partial = x }) (take-take line_room line_room s (omega arith))
        ∙ sym (on_line q [] s (omega arith) h)

-- ===== The whole text =====

pub blocks-joined : (t : Stream) (bs : List (List ℕ)) → on_blocks t bs ≡ on_bytes t (joined bs)
unfolding on_blocks on_bytes
blocks-joined t [] = refl
blocks-joined t (b ∷ bs) = blocks-joined (on_bytes t b) bs ∙ sym (bytes-append t b (joined bs))

-- bytes in front of the first line
abbrev in_front_of : List ℕ → List (List ℕ) → List ℕ → Lines
in_front_of x [] rest = record { whole = []; rest = x ++ rest }
in_front_of x (l ∷ ls) rest = record { whole = (x ++ l) ∷ ls; rest = rest }

none-in-front : (ls : List (List ℕ)) (rest : List ℕ) → in_front_of [] ls rest ≡ record { whole = ls; rest = rest }
none-in-front [] rest = refl
none-in-front (l ∷ ls) rest = refl

byte-in-front : (x : List ℕ) (b : ℕ) (ls : List (List ℕ)) (rest : List ℕ)
    → in_front_of (x ++ (b ∷ [])) ls rest ≡ in_front_of x (behind_byte b ls rest).whole (behind_byte b ls rest).rest
byte-in-front x b [] rest = ap (λ (z : List ℕ). record { whole = []; rest = z }) (append_assoc x (b ∷ []) rest)
byte-in-front x b (l ∷ ls) rest = ap (λ (z : List ℕ). record { whole = z ∷ ls; rest = rest }) (append_assoc x (b ∷ []) l)

abbrev answers_from : Progress → Lines → List ℕ
answers_from p t = all_bytes (after_rest (after_lines p t.whole) t.rest)

abbrev after : List ℕ → Lines → Lines
after x t = in_front_of x t.whole t.rest

stream-from : (p : Progress) (x s : List ℕ) → on_end (on_bytes (record { progress = p; partial = take line_room x }) s) ≡ answers_from p (after x (lines_of s))
unfolding on_bytes on_byte on_end lines_of after_lines
stream-from p x [] = ap all_bytes (rest-kept p x ∙ ap (after_rest p) (sym (append-nil x)))
stream-from p x (b ∷ s) = go (eqb b line_feed) (λ (q : Progress) (y : List ℕ). stream-from q y s)
  where
    go : (t : Bool)
        → ((q : Progress) (y : List ℕ) → on_end (on_bytes (record { progress = q; partial = take line_room y }) s) ≡ answers_from q (after y (lines_of s)))
        → on_end (on_bytes (cond t (record { progress = after_line p (take line_room x); partial = [] })
        (record { progress = p; partial = take line_room (take line_room x ++ (b ∷ [])) })) s)
        ≡ answers_from p (after x (cond t (record { whole = [] ∷ (lines_of s).whole; rest = (lines_of s).rest }) (behind_byte b (lines_of s).whole (lines_of s).rest)))
    go true ih =
        ih (after_line p (take line_room x)) []
        ∙ ap (answers_from (after_line p (take line_room x))) (none-in-front (lines_of s).whole (lines_of s).rest)
        ∙ ap (λ (q : Progress). answers_from q (lines_of s)) (after_kept p x ∙ ap (after_line p) (sym (append-nil x)))
    go false ih =
        ap (λ (z : List ℕ). on_end (on_bytes (record { progress = p; partial = z }) s)) (take_again line_room x (b ∷ []))
        ∙ ih p (x ++ (b ∷ []))
        ∙ ap (answers_from p) (byte-in-front x b (lines_of s).whole (lines_of s).rest)

-- read to its end, the stream has answered the text
pub stream-whole : (s : List ℕ) → on_end (on_bytes stream_start s) ≡ text_answers s
unfolding stream_start text_answers
stream-whole s = stream-from beginning [] s ∙ ap (answers_from beginning) (none-in-front (lines_of s).whole (lines_of s).rest)

-- in whatever blocks it came
pub stream-blocks : (bs : List (List ℕ)) → on_end (on_blocks stream_start bs) ≡ text_answers (joined bs)
stream-blocks bs = ap on_end (blocks-joined stream_start bs) ∙ stream-whole (joined bs)

-- ===== Answers that were written before =====

byte-apart : (w : List ℕ) (t : Stream) (b : ℕ) → on_byte (behind_written w t) b ≡ behind_written w (on_byte t b)
unfolding on_byte after_line
byte-apart w t b = go (eqb b line_feed)
  where
    answered : Progress → Stream
    answered q = record { progress = after_line q t.partial; partial = [] }

    begun : Progress → Stream
    begun q = record { progress = q; partial = take line_room (t.partial ++ (b ∷ [])) }

    go : (k : Bool)
        → cond k (answered (behind_written w t).progress) (begun (behind_written w t).progress)
        ≡ behind_written w (cond k (answered t.progress) (begun t.progress))
    go true =
        ap (λ (v : List ℕ). record {
          progress = record {
            session = (after_line t.progress t.partial).session;
            lines = suc t.progress.lines;
            met = (after_line t.progress t.partial).met;
            bytes = v;
          };
          partial = [];
        }) (append_assoc w t.progress.bytes (reply_bytes (reply t.progress.session (suc t.progress.lines) t.partial)))
    go false = refl

-- so each answer may be written when its line is done, and the buffer be used again
pub written_apart : (w : List ℕ) (t : Stream) (s : List ℕ) → on_bytes (behind_written w t) s ≡ behind_written w (on_bytes t s)
unfolding on_bytes
written_apart w t [] = refl
written_apart w t (b ∷ s) = ap (λ (u : Stream). on_bytes u s) (byte-apart w t b) ∙ written_apart w (on_byte t b) s

pub end-apart : (w : List ℕ) (t : Stream) → on_end (behind_written w t) ≡ w ++ on_end t
unfolding on_end after_rest
end-apart w t = go t.partial
  where
    q : Progress
    q = (behind_written w t).progress

    go : (s : List ℕ) → all_bytes (after_rest q s) ≡ w ++ all_bytes (after_rest t.progress s)
    go [] = append_assoc w t.progress.bytes (closing t.progress.session.part t.progress.met)
    go (b ∷ s) = simp append_assoc
