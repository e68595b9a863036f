-- Laws of where listings begin while a text is answered line by line.
use mathlib.Core.Path.{◌≡◌, refl, sym, ap, subst, ◌∙◌}
use mathlib.Core.Bool.{Bool, true, false, cond, not}
use mathlib.Core.List.{List}
use Prim.Native.Nat.{ℕ, ◌+◌, ◌-◌, ◌≤◌, ◌<◌}
use native.Mathlib.Omega.{arith}
use lib.Dec.{leb}
use lib.ListN.{length, take, drop, length-drop}
use Rattle.session.specs.declared.Part.TheVariants.{Model}
use Rattle.session.specs.Session.{Session}
use Rattle.session.specs.Texts.{Lines, lines_of, Progress, after_line}
use Rattle.model_entry.specs.Starts.{Slot, SlotStarts, has_start, starts_behind}
use Rattle.memory.specs.declared.Numbers.{Numbers}
use Rattle.memory.specs.Inner.{Carried}
use Rattle.memory.specs.Memory.{Memory, session_of, starts_of}
use Rattle.memory.specs.SlotLaws.{carried-starts}
use Rattle.texts.specs.declared.Position.{Position}
use Rattle.texts.specs.declared.Answered.{Answered}
use Rattle.texts.specs.Ends.{line_length}
use Rattle.texts.specs.LineLaws.{line-within, lines_none}
use Rattle.texts.specs.Running.{fits}
use Rattle.texts.specs.Inner.{progress_of, whole_of, next_end, behind_reply, Steps, CarriedOver}
use Rattle.texts.specs.Whole.{unwritten, Whole, starts_from}
use Rattle.texts.specs.StartLaws.{starts_none, starts-next, starts-alike}
use Rattle.texts.proofs.RunLaws.{left_over, Answering, here-long, there, split, answering-next, answering-done}
use Rattle.std.specs.Prelude.{Option}
use Rattle.std.specs.Prelude.{Some, None}

-- ===== One line =====

reply-numbers : (put : Option ℕ) (n : Numbers) (number : ℕ) (met : Bool) (next : ℕ) (r : Answered) → (behind_reply put n number met next r).position.numbers ≡ n
reply-numbers (Some e) n number met next r = refl
reply-numbers None n number met next r = refl

-- where a reply leads, all is carried over that it carries over
pub reply-carried : (put : Option ℕ) {n n' : Numbers} {w w' : Memory} → Carried n w n' w' → (number : ℕ) (met : Bool) (next : ℕ) (r : Answered) {a : Answered}
    → a ≡ behind_reply put n' number met next r → Carried n w a.position.numbers w'
reply-carried put {n} {n'} {w} {w'} c number met next r e =
    subst (λ (m : Numbers). Carried n w m w') (sym (ap (λ (x : Answered). x.position.numbers) e ∙ reply-numbers put n' number met next r)) c

-- ===== From line to line =====

-- the places behind the lines that are left, but where an answer had no room
abbrev pub left_starts : Bool → ℕ → ℕ → Progress → List (List ℕ) → SlotStarts → SlotStarts
left_starts true free room p ls at = at
left_starts false free room p ls at = starts_from free room p ls at

left-alike : (f : Bool) (free room : ℕ) (p : Progress) (ls : List (List ℕ)) (s : Slot) (at at' : SlotStarts) → (has_start p.session s ≡ true → at s ≡ at' s)
    → has_start (left_over f free room p ls).progress.session s ≡ true → left_starts f free room p ls at s ≡ left_starts f free room p ls at' s
left-alike true free room p ls s at at' h e = h e
left-alike false free room p ls s at at' h e = starts-alike free room p ls s at at' h e

-- from here on listings begin where they do from the beginning
pub record CarriedSoFar (block : List ℕ) (from free : ℕ) (first : Position) (w₀ : Memory) (out₀ : List ℕ) (r : Answered) (w : Memory) (out : List ℕ) : Type 0 where
  pub starts : (s : Slot) → has_start (whole_of block from free (progress_of first w₀ out₀) out₀).progress.session s ≡ true
      → left_starts r.full free (length out₀) (progress_of r.position w out) (lines_of (drop r.at block)).whole (starts_of r.position.numbers w) s
      ≡ starts_from free (length out₀) (progress_of first w₀ out₀) (lines_of (drop from block)).whole (starts_of first.numbers w₀) s
  pub idle : r.position.numbers.part ≡ Model → r.position.numbers.held ≡ first.numbers.held

pub standing-first : (block : List ℕ) (from free : ℕ) (p : Position) (w : Memory) (out : List ℕ)
    → CarriedSoFar block from free p w out (record { at = from; position = p; full = false }) w out
standing-first block from free p w out = record { starts = λ s e. refl; idle = λ e. refl }

module _ {block : List ℕ} {from free : ℕ} {first : Position} {w₀ : Memory} {out₀ : List ℕ} {r : Answered} {w : Memory} {out : List ℕ}
    (a : Answering block from free (progress_of first w₀ out₀) (whole_of block from free (progress_of first w₀ out₀) out₀) out₀ r w out)
    (t : CarriedSoFar block from free first w₀ out₀ r w out) where
  -- no line is left to be answered
  standing-last : {e : ℕ} → e ≡ next_end block r free (length out₀) → length block ≤ e
      → left_starts r.full free (length out₀) (progress_of r.position w out) (lines_of (drop r.at block)).whole (starts_of r.position.numbers w)
      ≡ starts_of r.position.numbers w
  unfolding next_end starts_from
  standing-last {e} i h = go r.full (leb (r.position.end + free) (length out₀)) refl i
    where
      P : Progress
      P = progress_of r.position w out

      at : SlotStarts
      at = starts_of r.position.numbers w

      go : (f b : Bool) → leb (r.position.end + free) (length out₀) ≡ b
          → e ≡ cond f (length block) (cond b (r.at + line_length (drop r.at block)) (length block))
          → left_starts f free (length out₀) P (lines_of (drop r.at block)).whole at ≡ at
      go true b u i = refl
      go false true u i =
          ap (λ (v : Lines). starts_from free (length out₀) P v.whole at)
          (lines_none (drop r.at block) (omega (arith, line-within (drop r.at block), length-drop r.at block, a.inside)))
      go false false u i =
          starts_none free (length out₀) P (lines_of (drop r.at block)).whole at (ap (λ (k : ℕ). leb (k + free) (length out₀)) (here-long a) ∙ u)

  pub standing-done : {e : ℕ} → e ≡ next_end block r free (length out₀) → length block ≤ e → CarriedOver block from free (progress_of first w₀ out₀) first w₀ out₀ r w
  unfolding progress_of
  standing-done i h = record {
    starts = λ s g. ap (λ (z : SlotStarts). z s) (sym (standing-last i h)) ∙ t.starts s (ap (λ (p : Progress). has_start p.session s) (sym (answering-done a i h).is) ∙ g);
    idle = t.idle;
  }

  module _ {e : ℕ} (i : e ≡ next_end block r free (length out₀)) (h : e < length block) {r' : Answered} {w' : Memory} {out' : List ℕ}
      (m : Steps (take (e - r.at) (drop r.at block)) (e + 1) r (progress_of r.position w out) out r' w' out') (k : length out' ≡ length out)
      (c : Carried r.position.numbers w r'.position.numbers w') where
    abbrev Before : Progress
    Before = progress_of r.position w out

    abbrev Line : List ℕ
    Line = take (e - r.at) (drop r.at block)

    abbrev Behind : SlotStarts
    Behind = starts_behind Before.session (after_line Before Line).session (starts_of r.position.numbers w)

    abbrev Left : Bool → SlotStarts
    Left b = cond b (starts_from free (length out₀) (after_line Before Line) (lines_of (drop (e + 1) block)).whole Behind) Behind

    session : session_of r'.position.numbers w' ≡ (after_line Before Line).session
    unfolding progress_of
    session = ap (λ (p : Progress). p.session) m.is ∙ go (fits (length out) (after_line Before Line).bytes)
      where
        go : (b : Bool) → (cond b (after_line Before Line) (unwritten Before Line)).session ≡ (after_line Before Line).session
        go true = refl
        go false = refl

    -- the line's places
    line-starts : (s : Slot) → has_start (progress_of r'.position w' out').session s ≡ true → starts_of r'.position.numbers w' s ≡ Behind s
    unfolding progress_of
    line-starts s g =
        carried-starts a.going.kept.stored m.going.kept.stored c s g
        ∙ ap (λ (σ : Session). starts_behind (session_of r.position.numbers w) σ (starts_of r.position.numbers w) s) session

    -- before the line
    before-line : left_starts r.full free (length out₀) Before (lines_of (drop r.at block)).whole (starts_of r.position.numbers w)
        ≡ Left (fits (length out) (after_line Before Line).bytes)
    before-line =
        ap (λ (f : Bool). left_starts f free (length out₀) Before (lines_of (drop r.at block)).whole (starts_of r.position.numbers w)) (there a i h).full
        ∙ ap (λ (v : Lines). starts_from free (length out₀) Before v.whole (starts_of r.position.numbers w)) (split a i h)
        ∙ starts-next free (length out₀) Before Line (lines_of (drop (e + 1) block)).whole (starts_of r.position.numbers w)
        (omega (arith, here-long a, (there a i h).has_room))
        ∙ ap (λ (n : ℕ). Left (fits n (after_line Before Line).bytes)) (sym a.long)

    -- behind it
    behind-line : left_starts r'.full free (length out₀) (progress_of r'.position w' out') (lines_of (drop r'.at block)).whole Behind
        ≡ Left (fits (length out) (after_line Before Line).bytes)
    behind-line = go (fits (length out) (after_line Before Line).bytes) m.full m.place m.is
      where
        go : (b : Bool) → r'.full ≡ not b → r'.at ≡ cond b (e + 1) r.at
            → progress_of r'.position w' out' ≡ cond b (after_line Before Line) (unwritten Before Line)
            → left_starts r'.full free (length out₀) (progress_of r'.position w' out') (lines_of (drop r'.at block)).whole Behind ≡ Left b
        go true f p s = λ j. left_starts (f j) free (length out₀) (s j) (lines_of (drop (p j) block)).whole Behind
        go false f p s =
            ap (λ (z : Bool). left_starts z free (length out₀) (progress_of r'.position w' out') (lines_of (drop r'.at block)).whole Behind) f

    pub standing-next : CarriedSoFar block from free first w₀ out₀ r' w' out'
    standing-next = record {
      starts = λ s g.
          left-alike r'.full free (length out₀) (progress_of r'.position w' out') (lines_of (drop r'.at block)).whole s (starts_of r'.position.numbers w') Behind
          (line-starts s) (ap (λ (v : Whole). has_start v.progress.session s) (sym (answering-next a i h m k).rest) ∙ g)
          ∙ ap (λ (z : SlotStarts). z s) (behind-line ∙ sym before-line) ∙ t.starts s g;
      idle = λ q. (c.idle q).1 ∙ t.idle (c.idle q).0;
    }
