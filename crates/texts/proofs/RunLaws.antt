-- Laws of a text answered line by line.
use mathlib.Core.Path.{◌≡◌, refl, sym, ap, subst, ◌∙◌}
use mathlib.Core.Bool.{Bool, true, false, cond, not, true≢false}
use mathlib.Core.List.{List, [], ◌∷◌, ◌++◌}
use Prim.Native.Nat.{ℕ, suc, ◌+◌, ◌-◌, ◌≤◌, ◌<◌}
use native.Mathlib.Omega.{arith}
use borrow.Author.Tests.{le-leb, lt-leb, leb-true, leb-false}
use lib.Dec.{leb}
use lib.ListN.{length, take, drop, length-drop}
use lib.Seq.{length-take-le, drop-drop, take-add}
use Rattle.basics.specs.Prefix.{prefix-length}
use Rattle.answers.specs.Writing.{most_bytes}
use Rattle.session.specs.Texts.{Lines, lines_of, Progress, after_line, beginning}
use Rattle.memory.specs.declared.Numbers.{Numbers}
use Rattle.memory.specs.Memory.{Memory, work_words}
use Rattle.lines.specs.Lines.{Opened}
use Rattle.texts.specs.declared.Ran.{Ran}
use Rattle.texts.specs.declared.Position.{Position}
use Rattle.texts.specs.declared.Answered.{Answered}
use Rattle.texts.specs.Ends.{line_length}
use Rattle.texts.specs.LineLaws.{behind_line, line-within, lines-first, lines_none, rest_all}
use Rattle.texts.specs.Inner.{filled_behind, progress_of, Going, Started, Starts, whole_of, Answerable, Reaches, next_end, Steps, Ending}
use Rattle.texts.specs.Running.{Filled, fits, fill_rest, fill_from, filled, Fills}
use Rattle.texts.specs.RunningLaws.{rest-grows, line-begins}
use Rattle.texts.specs.Sending.{most_lines}
use Rattle.texts.specs.Streaming.{Stream, fresh, on_bytes}
use Rattle.texts.specs.StreamLaws.{bytes-append, whole-line}
use Rattle.texts.specs.Whole.{unwritten, Whole, whole_from}
use Rattle.texts.specs.WholeLaws.{whole-none, whole-next, fill-whole, whole-all}
use Rattle.texts.proofs.MoveLaws.{drop-later, fills-over}

pub drop-none : (s : List ℕ) → drop 0 s ≡ s
drop-none [] = refl
drop-none (b ∷ s) = refl

-- ===== The line from a place on =====

module _ (text : List ℕ) (place e : ℕ) (h : place < length text) (q : e ≡ place + line_length (drop place text)) where
  pub first-line : e < length text → lines_of (drop place text) ≡ behind_line (take (e - place) (drop place text)) (lines_of (drop (e + 1) text))
  first-line l =
      let s : List ℕ = drop place text in
      let n : e - place ≡ line_length s = omega arith in
      let m : place + suc (line_length s) ≡ e + 1 = omega arith in
      lines-first s (omega (arith, length-drop place text))
      ∙ (λ i. behind_line (take (sym n i) s) (lines_of (drop-drop (suc (line_length s)) place text i)))
      ∙ ap (λ (k : ℕ). behind_line (take (e - place) s) (lines_of (drop k text))) m

-- ===== From line to line =====

-- the whole lines from the place on are answered as from the beginning, but where an answer had no room
abbrev pub left_over : Bool → ℕ → ℕ → Progress → List (List ℕ) → Whole
left_over true free room p ls = record { progress = p; left = ls; full = true }
left_over false free room p ls = whole_from free room p ls

pub record Answering (block : List ℕ) (from free : ℕ) (q : Progress) (x : Whole) (out₀ : List ℕ) (r : Answered) (w : Memory) (out : List ℕ) : Type 0 where
  pub later : from ≤ r.at
  pub inside : r.at ≤ length block
  pub going : Going r.position w out
  pub rest : x ≡ left_over r.full free (length out₀) (progress_of r.position w out) (lines_of (drop r.at block)).whole
  pub same : (lines_of (drop r.at block)).rest ≡ (lines_of (drop from block)).rest
  pub never : most_bytes ≤ free → r.full ≡ false
  pub bytes : r.full ≡ false → on_bytes (fresh q) (take (r.at - from) (drop from block)) ≡ fresh (progress_of r.position w out)
  pub lines : r.position.lines + (length block - r.at) ≤ q.lines + (length block - from)
  pub behind : drop r.position.end out ≡ drop r.position.end out₀
  pub long : length out ≡ length out₀

take_none : (s : List ℕ) → take 0 s ≡ []
take_none [] = refl
take_none (b ∷ s) = refl

pub answering-first : {block : List ℕ} {from : ℕ} (free : ℕ) {p : Position} {w : Memory} {work out : List ℕ} → Answerable block from p w work out
    → Answering block from free (progress_of p w out) (whole_of block from free (progress_of p w out) out) out (record { at = from; position = p; full = false }) w out
unfolding on_bytes progress_of
answering-first {block} {from} free {p} {w} {work} {out} g =
    let k : from - from ≡ 0 = omega arith in
    record {
      later = omega arith;
      inside = g.inside;
      going = g.going;
      rest = refl;
      same = refl;
      never = λ h. refl;
      bytes = λ e. ap (λ (n : ℕ). on_bytes (fresh (progress_of p w out)) (take n (drop from block))) k
          ∙ ap (on_bytes (fresh (progress_of p w out))) (take_none (drop from block));
      lines = omega arith;
      behind = refl;
      long = refl;
    }

after-count : (q : Progress) (s : List ℕ) → (after_line q s).lines ≡ suc q.lines
unfolding after_line
after-count q s = refl

clash : {A : Type 0} {b : Bool} → b ≡ true → b ≡ false → A
clash p q = absurd (true≢false (sym p ∙ q))

-- the block from one place to another, and on to a third
take_on : (block : List ℕ) (a b c : ℕ) → a ≤ b → b ≤ c → take (c - a) (drop a block) ≡ take (b - a) (drop a block) ++ take (c - b) (drop b block)
take_on block a b c h l =
    let k : c - a ≡ (b - a) + (c - b) = omega arith in
    let m : a + (b - a) ≡ b = omega arith in
    ap (λ (n : ℕ). take n (drop a block)) k ∙ take-add (b - a) (c - b) (drop a block)
    ∙ ap (λ (s : List ℕ). take (b - a) (drop a block) ++ take (c - b) s) (drop-drop (b - a) a block ∙ ap (λ (n : ℕ). drop n block) m)

-- where the next line ends
pub record There (block : List ℕ) (r : Answered) (free room e : ℕ) : Type 0 where
  pub full : r.full ≡ false
  pub has_room : r.position.end + free ≤ room
  pub is : e ≡ r.at + line_length (drop r.at block)

next-there : (block : List ℕ) (r : Answered) (free room : ℕ) {e : ℕ} → e ≡ next_end block r free room → e < length block → There block r free room e
unfolding next_end
next-there block r free room {e} i h = go r.full refl (leb (r.position.end + free) room) refl i
  where
    go : (f : Bool) → r.full ≡ f → (b : Bool) → leb (r.position.end + free) room ≡ b
        → e ≡ cond f (length block) (cond b (r.at + line_length (drop r.at block)) (length block)) → There block r free room e
    go true p b q i = absurd (omega arith)
    go false p true q i = record { full = p; has_room = leb-true (r.position.end + free) room q; is = i }
    go false p false q i = absurd (omega arith)

pub next-inside : {block : List ℕ} {from free : ℕ} {q : Progress} {x : Whole} {out₀ : List ℕ} {r : Answered} {w : Memory} {out : List ℕ}
    → Answering block from free q x out₀ r w out → {e : ℕ} → e ≡ next_end block r free (length out₀) → e < length block → r.at ≤ e
next-inside {block} {from} {free} {q} {x} {out₀} {r} a i h = omega (arith, (next-there block r free (length out₀) i h).is)

module _ {block : List ℕ} {from free : ℕ} {q : Progress} {x : Whole} {out₀ : List ℕ} {r : Answered} {w : Memory} {out : List ℕ}
    (a : Answering block from free q x out₀ r w out) where
  pub here-long : length (progress_of r.position w out).bytes ≡ r.position.end
  unfolding progress_of
  here-long = length-take-le r.position.end out a.going.within

  here-lines : (progress_of r.position w out).lines ≡ r.position.lines
  unfolding progress_of
  here-lines = refl

  -- no line is left to be answered
  pub answering-done : {e : ℕ} → e ≡ next_end block r free (length out₀) → length block ≤ e → Reaches block from free q x out₀ r w out
  unfolding next_end whole_from
  answering-done {e} i h =
      let z = go r.full refl (leb (r.position.end + free) (length out₀)) refl i a.rest in
      record {
        later = a.later;
        inside = a.inside;
        going = a.going;
        is = sym (ap (λ (v : Whole). v.progress) z);
        left = λ j. record { whole = sym (ap (λ (v : Whole). v.left) z) j; rest = a.same j };
        full = sym (ap (λ (v : Whole). v.full) z);
        never = a.never;
        bytes = a.bytes;
        lines = a.lines;
        behind = a.behind;
      }
    where
      go : (f : Bool) → r.full ≡ f → (b : Bool) → leb (r.position.end + free) (length out₀) ≡ b
          → e ≡ cond f (length block) (cond b (r.at + line_length (drop r.at block)) (length block))
          → x ≡ left_over r.full free (length out₀) (progress_of r.position w out) (lines_of (drop r.at block)).whole
          → x ≡ record { progress = progress_of r.position w out; left = (lines_of (drop r.at block)).whole; full = r.full }
      go true p b t i y =
          y ∙ ap (λ (f : Bool). left_over f free (length out₀) (progress_of r.position w out) (lines_of (drop r.at block)).whole) p
          ∙ ap (λ (f : Bool). record { progress = progress_of r.position w out; left = (lines_of (drop r.at block)).whole; full = f }) (sym p)
      go false p true t i y =
          let n = lines_none (drop r.at block) (omega (arith, line-within (drop r.at block), length-drop r.at block, a.inside)) in
          y ∙ ap (λ (f : Bool). left_over f free (length out₀) (progress_of r.position w out) (lines_of (drop r.at block)).whole) p
          ∙ ap (λ (v : Lines). whole_from free (length out₀) (progress_of r.position w out) v.whole) n
          ∙ ap (λ (v : Lines). record { progress = progress_of r.position w out; left = v.whole; full = false }) (sym n)
          ∙ ap (λ (f : Bool). record { progress = progress_of r.position w out; left = (lines_of (drop r.at block)).whole; full = f }) (sym p)
      go false p false t i y =
          let m : leb (length (progress_of r.position w out).bytes + free) (length out₀) ≡ false = ap (λ (k : ℕ). leb (k + free) (length out₀)) here-long ∙ t in
          y ∙ ap (λ (f : Bool). left_over f free (length out₀) (progress_of r.position w out) (lines_of (drop r.at block)).whole) p
          ∙ whole-none free (length out₀) (progress_of r.position w out) (lines_of (drop r.at block)).whole m
          ∙ ap (λ (f : Bool). record { progress = progress_of r.position w out; left = (lines_of (drop r.at block)).whole; full = f }) (sym p)

  module _ {e : ℕ} (i : e ≡ next_end block r free (length out₀)) (h : e < length block) where
    pub there : There block r free (length out₀) e
    there = next-there block r free (length out₀) i h

    pub split : lines_of (drop r.at block) ≡ behind_line (take (e - r.at) (drop r.at block)) (lines_of (drop (e + 1) block))
    split = first-line block r.at e (omega (arith, there.is)) there.is h

    abbrev Next : Bool → Whole
    Next b =
        cond b (whole_from free (length out₀) (after_line (progress_of r.position w out) (take (e - r.at) (drop r.at block))) (lines_of (drop (e + 1) block)).whole)
        (record {
          progress = unwritten (progress_of r.position w out) (take (e - r.at) (drop r.at block));
          left = take (e - r.at) (drop r.at block) ∷ (lines_of (drop (e + 1) block)).whole;
          full = true;
        })

    on : x ≡ Next (fits (length out) (after_line (progress_of r.position w out) (take (e - r.at) (drop r.at block))).bytes)
    on =
        a.rest ∙ ap (λ (f : Bool). left_over f free (length out₀) (progress_of r.position w out) (lines_of (drop r.at block)).whole) there.full
        ∙ ap (λ (v : Lines). whole_from free (length out₀) (progress_of r.position w out) v.whole) split
        ∙ whole-next free (length out₀) (progress_of r.position w out) (take (e - r.at) (drop r.at block)) (lines_of (drop (e + 1) block)).whole (omega (arith, here-long, there.has_room))
        ∙ ap (λ (n : ℕ). Next (fits n (after_line (progress_of r.position w out) (take (e - r.at) (drop r.at block))).bytes)) (sym a.long)

    module _ {r' : Answered} {w' : Memory} {out' : List ℕ} (m : Steps (take (e - r.at) (drop r.at block)) (e + 1) r (progress_of r.position w out) out r' w' out')
        (k : length out' ≡ length out) where
      then-long : length (progress_of r'.position w' out').bytes ≡ r'.position.end
      unfolding progress_of
      then-long = length-take-le r'.position.end out' m.going.within

      then_lines : (progress_of r'.position w' out').lines ≡ r'.position.lines
      unfolding progress_of
      then_lines = refl

      wrote : fits (length out) (after_line (progress_of r.position w out) (take (e - r.at) (drop r.at block))).bytes ≡ true
          → Answering block from free q x out₀ r' w' out'
      wrote b =
          let P : Progress = progress_of r.position w out in
          let l : List ℕ = take (e - r.at) (drop r.at block) in
          let f : r'.full ≡ false = m.full ∙ ap not b in
          let p : r'.at ≡ e + 1 = m.place ∙ ap (λ (c : Bool). cond c (e + 1) r.at) b in
          let s : progress_of r'.position w' out' ≡ after_line P l = m.is ∙ ap (λ (c : Bool). cond c (after_line P l) (unwritten P l)) b in
          let g = prefix-length (line-begins P l) in
          let c = ap (λ (v : Progress). v.lines) s ∙ after-count P l in
          let d = drop r.at block in
          let n : e + 1 - r.at ≡ suc (line_length d) = omega (arith, there.is) in
          let v : e - r.at ≡ line_length d = omega (arith, there.is) in
          record {
            later = omega (arith, a.later, there.is);
            inside = omega arith;
            going = m.going;
            rest = on ∙ ap Next b ∙ (λ j. left_over (sym f j) free (length out₀) (sym s j) (lines_of (drop (sym p j) block)).whole);
            same = ap (λ (t : ℕ). (lines_of (drop t block)).rest) p ∙ sym (ap (λ (t : Lines). t.rest) split) ∙ a.same;
            never = λ z. f;
            bytes = λ z.
                ap (λ (t : ℕ). on_bytes (fresh q) (take (t - from) (drop from block))) p
                ∙ ap (on_bytes (fresh q)) (take_on block from r.at (e + 1) a.later (omega (arith, there.is)))
                ∙ bytes-append (fresh q) (take (r.at - from) (drop from block)) (take (e + 1 - r.at) d)
                ∙ ap (λ (t : Stream). on_bytes t (take (e + 1 - r.at) d)) (a.bytes there.full)
                ∙ ap (λ (t : ℕ). on_bytes (fresh P) (take t d)) n
                ∙ whole-line P d (omega (arith, length-drop r.at block, there.is))
                ∙ ap (λ (t : ℕ). fresh (after_line P (take t d))) (sym v)
                ∙ ap fresh (sym s);
            lines = omega (arith, a.lines, then_lines, c, here-lines, there.is);
            behind = m.behind ∙ drop-later out out₀ r.position.end r'.position.end (omega (arith, then-long, ap (λ (v : Progress). length v.bytes) s, here-long, g)) a.behind;
            long = k ∙ a.long;
          }

      stuck : fits (length out) (after_line (progress_of r.position w out) (take (e - r.at) (drop r.at block))).bytes ≡ false
          → Answering block from free q x out₀ r' w' out'
      stuck b =
          let P : Progress = progress_of r.position w out in
          let l : List ℕ = take (e - r.at) (drop r.at block) in
          let f : r'.full ≡ true = m.full ∙ ap not b in
          let p : r'.at ≡ r.at = m.place ∙ ap (λ (c : Bool). cond c (e + 1) r.at) b in
          let s : progress_of r'.position w' out' ≡ unwritten P l = m.is ∙ ap (λ (c : Bool). cond c (after_line P l) (unwritten P l)) b in
          let c = ap (λ (v : Progress). v.lines) s in
          let ls : (lines_of (drop r.at block)).whole ≡ l ∷ (lines_of (drop (e + 1) block)).whole = ap (λ (t : Lines). t.whole) split in
          record {
            later = omega (arith, a.later);
            inside = omega (arith, a.inside);
            going = m.going;
            rest = on ∙ ap Next b ∙ ap (λ (t : List (List ℕ)). record { progress = unwritten P l; left = t; full = true }) (sym ls)
                ∙ (λ j. left_over (sym f j) free (length out₀) (sym s j) (lines_of (drop (sym p j) block)).whole);
            same = ap (λ (t : ℕ). (lines_of (drop t block)).rest) p ∙ a.same;
            never = λ z. absurd (omega (arith, leb-false (length (after_line P l).bytes) (length out) b, m.short, here-long, there.has_room, a.long));
            bytes = λ z. clash f z;
            lines = omega (arith, a.lines, then_lines, c, here-lines);
            behind = m.behind ∙ drop-later out out₀ r.position.end r'.position.end (omega (arith, then-long, ap (λ (v : Progress). length v.bytes) s, here-long)) a.behind;
            long = k ∙ a.long;
          }

      pub answering-next : Answering block from free q x out₀ r' w' out'
      answering-next = go (fits (length out) (after_line (progress_of r.position w out) (take (e - r.at) (drop r.at block))).bytes) refl
        where
          go : (b : Bool) → fits (length out) (after_line (progress_of r.position w out) (take (e - r.at) (drop r.at block))).bytes ≡ b
              → Answering block from free q x out₀ r' w' out'
          go true b = wrote b
          go false b = stuck b

      -- the next line ends later
      pub end_later : {e' : ℕ} → e' ≡ next_end block r' free (length out₀) → e < e'
      unfolding next_end
      end_later {e'} i' = go (fits (length out) (after_line (progress_of r.position w out) (take (e - r.at) (drop r.at block))).bytes) m.full m.place
        where
          some : (c : Bool) → r'.at ≡ e + 1 → e < cond c (r'.at + line_length (drop r'.at block)) (length block)
          some true p = omega arith
          some false p = omega arith

          go : (b : Bool) → r'.full ≡ not b → r'.at ≡ cond b (e + 1) r.at → e < e'
          go true f p = omega (
            arith,
            i' ∙ ap (λ (c : Bool). cond c (length block) (cond (leb (r'.position.end + free) (length out₀)) (r'.at + line_length (drop r'.at block)) (length block))) f,
            some (leb (r'.position.end + free) (length out₀)) p,
          )
          go false f p = omega (
            arith,
            i' ∙ ap (λ (c : Bool). cond c (length block) (cond (leb (r'.position.end + free) (length out₀)) (r'.at + line_length (drop r'.at block)) (length block))) f,
          )

pub of-lines : (p : Position) (w : Memory) (out : List ℕ) → (progress_of p w out).lines ≡ p.lines
unfolding progress_of
of-lines p w out = refl

pub answering-lines : {block : List ℕ} {from free : ℕ} {q : Progress} {out₀ : List ℕ} {x : Whole} {r : Answered} {w : Memory} {out : List ℕ}
    → Answering block from free q x out₀ r w out → {e : ℕ} → e ≡ next_end block r free (length out₀) → e < length block → {n : ℕ} → q.lines ≡ n
    → n + (length block - from) ≤ most_lines → r.position.lines < most_lines
answering-lines {block} {from} {free} {out₀ = out₀} {r = r} a i h k l = omega (arith, a.lines, (next-there block r free (length out₀) i h).is)

-- where the next line ends
module _ (block : List ℕ) (r : Answered) (free room : ℕ) where
  pub end-full : r.full ≡ true → length block ≡ next_end block r free room
  unfolding next_end
  end-full f = rw f

  pub end-few : r.full ≡ false → r.position.end ≤ room → room - r.position.end < free → length block ≡ next_end block r free room
  unfolding next_end
  end-few f h l = rw (f, lt-leb (r.position.end + free) room (omega arith))

  pub end-there : r.full ≡ false → r.position.end ≤ room → free ≤ room - r.position.end → {e : ℕ} → e ≡ r.at + line_length (drop r.at block) → e ≡ next_end block r free room
  unfolding next_end
  end-there f h l i = rw (f, le-leb (r.position.end + free) room (omega arith)) i

-- the lengths of what is lent stay
pub record Lengths (w₀ : Memory) (work₀ : List ℕ) (w : Memory) (work : List ℕ) : Type 0 where
  pub names : length w.names ≡ length w₀.names
  pub arities : length w.arities ≡ length w₀.arities
  pub listings : length w.listings ≡ length w₀.listings
  pub table : length w.table ≡ length w₀.table
  pub state : length w.state ≡ length w₀.state
  pub value : length w.value ≡ length w₀.value
  pub work-room : length work ≡ length work₀

pub lengths-same : (w : Memory) (work : List ℕ) → Lengths w work w work
lengths-same w work = record { names = refl; arities = refl; listings = refl; table = refl; state = refl; value = refl; work-room = refl }

-- ===== A whole text =====

pub begins : {arities state : List ℕ} {n : Numbers} {arities' state' : List ℕ} → Opened arities state n arities' state'
    → Starts arities state (record { numbers = n; lines = 0; met = false; end = 0 }) arities' state'
unfolding progress_of beginning
begins {arities} {state} {n} {arities'} {state'} x = record {
  says = λ names listings table value out rooms.
      let o = x.says names listings table value rooms in
      record {
        going = record { kept = o.kept; within = omega arith };
        is = λ i. record { session = o.session i; lines = 0; met = false; bytes = take_none out i };
        end = refl;
      };
}

of-position : (p : Position) (w : Memory) (out : List ℕ) → p.end ≤ length out → length (progress_of p w out).bytes ≡ p.end
unfolding progress_of
of-position p w out h = length-take-le p.end out h

started_none : {p : Position} {w : Memory} {out : List ℕ} → Started p w out → p.lines ≡ 0
unfolding progress_of beginning
started_none x = ap (λ (q : Progress). q.lines) x.is

pub run-answerable : {text : List ℕ} {p : Position} {w : Memory} {work out : List ℕ} → Started p w out → length text ≤ most_lines → work_words ≤ length work
    → Answerable text 0 p w work out
run-answerable x h l = record { inside = omega arith; going = x.going; lines = omega (arith, started_none x); work-room = l }

pub run-ending : {text : List ℕ} {p : Position} {w : Memory} {out : List ℕ} {x : Whole} {r : Answered} {w' : Memory} {out' : List ℕ} → Started p w out → length text < most_lines
    → Reaches text 0 0 (progress_of p w out) x out r w' out' → Ending (length text) r out'
run-ending {text} {p} {w} {out} st h x =
    record { inside = x.inside; within = x.going.within; lines = omega (arith, x.lines, x.inside, started_none st, of-lines p w out) }

rest_of : (room : ℕ) (p : Progress) {x y : List ℕ} (f : Bool) → (f ≡ false → x ≡ y) → filled_behind room f p x ≡ filled_behind room f p y
rest_of room p true e = refl
rest_of room p false e = ap (fill_rest room p) (e refl)

behind-grows : (room : ℕ) (f : Bool) (p : Progress) (s : List ℕ) → length p.bytes ≤ length (filled_behind room f p s).bytes
behind-grows room true p s = omega arith
behind-grows room false p s = rest-grows room p s

-- its whole lines are answered, then its end
pub run_ends : {text : List ℕ} {p : Position} {w : Memory} {out : List ℕ} {r : Answered} {w' : Memory} {out' : List ℕ} {a : Ran} {out'' : List ℕ} → Started p w out
    → Reaches text 0 0 (progress_of p w out) (whole_of text 0 0 (progress_of p w out) out) out r w' out' → length out' ≡ length out
    → ((v : Memory) (s : List ℕ) → length s ≡ length text - r.at → Fills (filled_behind (length out') r.full (progress_of r.position v out') s) out' a out'')
    → Fills (filled (length out) text) out a out''
unfolding filled
run_ends {text} {p} {w} {out} {r} {w'} {out'} {a} {out''} st x k f =
    let Q : Progress = progress_of p w out in
    let P : Progress = progress_of r.position w' out' in
    let X : Whole = whole_of text 0 0 (progress_of p w out) out in
    let rest : List ℕ = (lines_of (drop 0 text)).rest in
    let s : List ℕ = drop r.at text in
    let h : length (progress_of p w out).bytes ≤ length out = omega (arith, of-position p w out st.going.within, st.going.within) in
    let e : filled (length out) text ≡ filled_behind (length out) r.full P rest =
    (λ i. fill_from (length out) (sym st.is i) (lines_of (sym (drop-none text) i)))
    ∙ fill-whole (length out) Q (lines_of (drop 0 text)).whole rest h ∙ (λ i. filled_behind (length out) (sym x.full i) (sym x.is i) rest) in
    let d : filled_behind (length out) r.full P rest ≡ filled_behind (length out) r.full P s =
    rest_of (length out) P r.full (λ (z : r.full ≡ false). sym (ap (λ (t : Lines). t.rest) x.left)
    ∙ rest_all s (ap (λ (t : Lines). t.whole) x.left ∙ whole-all (length out) Q (lines_of (drop 0 text)).whole h (sym x.full ∙ z))) in
    let g : Fills (filled_behind (length out) r.full P s) out' a out'' =
    subst (λ (n : ℕ). Fills (filled_behind n r.full P s) out' a out'') k (f w' s (length-drop r.at text)) in
    let b : r.position.end ≤ length (filled_behind (length out) r.full P s).bytes =
    omega (arith, behind-grows (length out) r.full P s, of-position r.position w' out' x.going.within) in
    subst (λ (v : Filled). Fills v out a out'') (sym (e ∙ d)) (fills-over r.position.end x.behind b g)
