-- Laws of answers put behind one another in a buffer.
use mathlib.Core.Path.{◌≡◌, refl, sym, ap, subst, ◌∙◌}
use mathlib.Core.Bool.{Bool, true, false, cond, not, ◌||◌}
use mathlib.Core.List.{List, [], ◌∷◌, ◌++◌, append-nil}
use Prim.Native.Nat.{ℕ, suc, ◌+◌, ◌-◌, ◌≤◌, ◌<◌}
use native.Mathlib.Omega.{arith}
use native.Mathlib.Numerals.{add-one}
use borrow.Author.Tests.{leb-true, leb-false, le-leb, lt-leb, ne_eqb, not-true, not-false}
use lib.ListN.{length, take, drop, length-append, take-append-drop, length-drop}
use lib.Seq.{length-take-le, take_at, drop_at, drop-drop}
use lib.Dec.{leb, eqb}
use Rattle.refusal.specs.declared.Refusal.TheVariants.{Form, Place}
use Rattle.answers.specs.declared.Answer.TheVariants.{Refused}
use Rattle.answers.specs.Answers.{answer_line, answer_bytes}
use Rattle.answers.specs.Inner.{Placed, put_answer, put_result}
use Rattle.answers.specs.Writing.{most_bytes}
use Rattle.session.specs.Replies.{reply}
use Rattle.session.specs.Texts.{has_bytes, Progress, reply_bytes, after_line, after_rest, unfinished, closing}
use Rattle.memory.specs.declared.Numbers.{Numbers}
use Rattle.memory.specs.Memory.{Memory, session_of}
use Rattle.texts.specs.declared.Ran.{Ran}
use Rattle.texts.specs.declared.Ran.TheVariants.{Done, Full}
use Rattle.texts.specs.declared.Sent.{Sent}
use Rattle.texts.specs.declared.Position.{Position}
use Rattle.texts.specs.declared.Answered.{Answered}
use Rattle.texts.specs.Inner.{filled_behind, Sends, progress_of, Going, behind_reply, Steps}
use Rattle.texts.specs.Running.{Filled, fits, stopped, fill_closing, fill_rest, in_front, Fills}
use Rattle.texts.specs.RunningLaws.{rest-none, closing-grows}
use Rattle.texts.specs.Whole.{unwritten}
use Rattle.std.specs.Prelude.{Option}
use Rattle.std.specs.Prelude.{Some, None}

-- ===== An answer that has room, or none =====

-- the bytes w stand behind those in front of the place
pub record Appended (out : List ℕ) (place : ℕ) (w : List ℕ) (e : ℕ) (out' : List ℕ) : Type 0 where
  pub end : e ≡ place + length w
  pub within : e ≤ length out
  pub front : take e out' ≡ take place out ++ w
  pub behind : drop e out' ≡ drop e out
  pub long : length out' ≡ length out

appended : (out : List ℕ) (place : ℕ) (w : List ℕ) → place + length w ≤ length out
    → Appended out place w (place + length w) (take place out ++ w ++ drop (place + length w) out)
appended out place w h =
    let P : List ℕ = take place out ++ w in
    let Q : List ℕ = drop (place + length w) out in
    let n : length P ≡ place + length w = omega (arith, length-append (take place out) w, length-take-le place out (omega arith)) in
    record {
      end = refl;
      within = h;
      front = take_at P Q (place + length w) n;
      behind = drop_at P Q (place + length w) n;
      long = omega (arith, length-append P Q, length-drop (place + length w) out);
    }

module _ {out : List ℕ} {place : ℕ} {w : List ℕ} {r : Option ℕ} {out' : List ℕ} (x : Placed out place w r out') where
  pub placed_at : (e : ℕ) → r ≡ Some e → Appended out place w e out'
  unfolding put_answer put_result
  placed_at e q = go (leb (place + length w) (length out)) refl (sym q ∙ x.answer) x.result
    where
      go : (b : Bool) → leb (place + length w) (length out) ≡ b → Some e ≡ cond b (Some (place + length w)) None
          → out' ≡ cond b (take place out ++ w ++ drop (place + length w) out) out → Appended out place w e out'
      go true t a g =
          let k : e ≡ place + length w = cc in
          rw (k, g) (appended out place w (leb-true (place + length w) (length out) t))
      go false t a g = absurd (let z : ◌≡◌ {A = ℕ} 0 1 = cc in omega arith)

  pub placed-full : r ≡ None → (length out < place + length w) × (out' ≡ out)
  unfolding put_answer put_result
  placed-full q = go (leb (place + length w) (length out)) refl (sym q ∙ x.answer) x.result
    where
      go : (b : Bool) → leb (place + length w) (length out) ≡ b → None ≡ cond b (Some (place + length w)) None
          → out' ≡ cond b (take place out ++ w ++ drop (place + length w) out) out → (length out < place + length w) × (out' ≡ out)
      go true t a g = absurd (let z : ◌≡◌ {A = ℕ} 0 1 = cc in omega arith)
      go false t a g = (leb-false (place + length w) (length out) t, g)

-- ===== A line =====

-- a line with bytes was met before, or is this one
pub met-now : {m : Bool} (s : List ℕ) → m ≡ false → not (eqb (length s) 0) ≡ (m || has_bytes s)
met-now [] e = ap (λ (b : Bool). b || false) (sym e)
met-now (b ∷ s) e = ap not (ne_eqb (suc (length s)) 0 (λ h. omega arith)) ∙ ap (λ (c : Bool). c || true) (sym e)

-- where a reply leads
module _ (n : Numbers) (number : ℕ) (met : Bool) (next : ℕ) (r : Answered) {put : Option ℕ} where
  pub reply-at : {e : ℕ} → put ≡ Some e → behind_reply (Some e) n number met next r ≡ behind_reply put n number met next r
  reply-at i = ap (λ (z : Option ℕ). behind_reply z n number met next r) (sym i)

  pub reply-full : put ≡ None → behind_reply None n number met next r ≡ behind_reply put n number met next r
  reply-full i = ap (λ (z : Option ℕ). behind_reply z n number met next r) (sym i)

steps-by : {l : List ℕ} {next : ℕ} {r : Answered} {q : Progress} {out : List ℕ} {r' : Answered} {w : Memory} {out' : List ℕ} (b : Bool)
    → fits (length out) (after_line q l).bytes ≡ b → Going r'.position w out' → r'.full ≡ not b → r'.at ≡ cond b next r.at
    → progress_of r'.position w out' ≡ cond b (after_line q l) (unwritten q l) → length (after_line q l).bytes ≤ length q.bytes + most_bytes
    → drop r'.position.end out' ≡ drop r'.position.end out → Steps l next r q out r' w out'
steps-by {l} {next} {r} {q} b e g f a p h d = record {
  going = g;
  full = f ∙ ap not (sym e);
  place = a ∙ ap (λ (c : Bool). cond c next r.at) (sym e);
  is = p ∙ ap (λ (c : Bool). cond c (after_line q l) (unwritten q l)) (sym e);
  short = h;
  behind = d;
}

module _ {s : List ℕ} (r : Answered) {w : Memory} {out : List ℕ} {sent : Sent} {w' : Memory} {out' : List ℕ} (g : Going r.position w out)
    (x : Sends s (r.position.lines + 1) r.position.numbers w out r.position.end sent w' out') where
  sends : Sends s (suc r.position.lines) r.position.numbers w out r.position.end sent w' out'
  sends = subst (λ (k : ℕ). Sends s k r.position.numbers w out r.position.end sent w' out') (add-one r.position.lines) x

  bytes : List ℕ
  bytes = reply_bytes (reply (session_of r.position.numbers w) (suc r.position.lines) s)

  bytes-long : length (after_line (progress_of r.position w out) s).bytes ≡ r.position.end + length bytes
  unfolding after_line progress_of bytes
  bytes-long = omega (arith, length-append (take r.position.end out) bytes, length-take-le r.position.end out g.within)

  here-long : length (progress_of r.position w out).bytes ≡ r.position.end
  unfolding progress_of
  here-long = length-take-le r.position.end out g.within

  short : length (after_line (progress_of r.position w out) s).bytes ≤ length (progress_of r.position w out).bytes + most_bytes
  unfolding bytes
  short = omega (arith, bytes-long, here-long, sends.short)

  pub stepped : (next : ℕ) {m : Bool} → m ≡ (r.position.met || has_bytes s) → {a : Answered}
      → a ≡ behind_reply sent.put sent.numbers (r.position.lines + 1) m next r → Steps s next r (progress_of r.position w out) out a w' out'
  unfolding after_line progress_of bytes
  stepped next {m} t {a} j = subst (λ (z : Answered). Steps s next r (progress_of r.position w out) out z w' out') (sym j) (go sent.put refl)
    where
      at : (e : ℕ) → sent.put ≡ Some e
          → Steps s next r (progress_of r.position w out) out (behind_reply (Some e) sent.numbers (r.position.lines + 1) m next r) w' out'
      at e i =
          let y = sends in
          let a = placed_at y.placed e i in
          steps-by true
          (le-leb (length (after_line (progress_of r.position w out) s).bytes) (length out) (omega (arith, bytes-long, a.end, a.within)))
          (record { kept = y.kept; within = omega (arith, a.within, a.long) })
          refl refl
          (λ i. record { session = y.session i; lines = add-one r.position.lines i; met = t i; bytes = a.front i })
          short a.behind

      full : sent.put ≡ None
          → Steps s next r (progress_of r.position w out) out (behind_reply None sent.numbers (r.position.lines + 1) m next r) w' out'
      full i =
          let y = sends in
          let a = placed-full y.placed i in
          steps-by false
          (lt-leb (length (after_line (progress_of r.position w out) s).bytes) (length out) (omega (arith, bytes-long, a.0)))
          (record { kept = y.kept; within = omega (arith, g.within, ap length a.1) })
          refl refl
          (λ i. record { session = y.session i; lines = r.position.lines; met = r.position.met; bytes = take r.position.end (a.1 i) })
          short (ap (drop r.position.end) a.1)

      go : (put : Option ℕ) → sent.put ≡ put → Steps s next r (progress_of r.position w out) out (behind_reply put sent.numbers (r.position.lines + 1) m next r) w' out'
      go (Some e) i = at e i
      go None i = full i

-- ===== The end of a text =====

or-true : (b : Bool) → (b || true) ≡ true
or-true true = refl
or-true false = refl

-- the bytes in front of the place, and w behind them
in-front : {out : List ℕ} {place : ℕ} {w : List ℕ} {e : ℕ} {out' : List ℕ} → place ≤ length out → Appended out place w e out' → out' ≡ in_front (take place out ++ w) out
in-front {out} {place} {w} {e} {out'} h a =
    let n : e ≡ length (take place out ++ w) = omega (arith, a.end, length-append (take place out) w, length-take-le place out h) in
    sym (take-append-drop e out') ∙ (λ i. a.front i ++ a.behind i) ∙ ap (λ (k : ℕ). (take place out ++ w) ++ drop k out) n

-- nothing is written
in_place : (out : List ℕ) (place : ℕ) → place ≤ length out → out ≡ in_front (take place out) out
in_place out place h = sym (take-append-drop place out) ∙ ap (λ (k : ℕ). take place out ++ drop k out) (sym (length-take-le place out h))

-- buffers that agree behind a place agree behind a later one
pub drop-later : (x y : List ℕ) (m n : ℕ) → m ≤ n → drop m x ≡ drop m y → drop n x ≡ drop n y
drop-later x y m n h e =
    let k : m + (n - m) ≡ n = omega arith in
    ap (λ (i : ℕ). drop i x) (sym k) ∙ sym (drop-drop (n - m) m x) ∙ ap (drop (n - m)) e ∙ drop-drop (n - m) m y ∙ ap (λ (i : ℕ). drop i y) k

-- the buffer was written to before
pub fills-over : {f : Filled} {out₀ out out' : List ℕ} {r : Ran} (e : ℕ) → drop e out ≡ drop e out₀ → e ≤ length f.bytes → Fills f out r out' → Fills f out₀ r out'
fills-over {f} {out₀} {out} {out'} {r} e q h x =
    record { answer = x.answer; result = x.result ∙ ap (λ (v : List ℕ). f.bytes ++ v) (drop-later out out₀ e (length f.bytes) h q) }

-- there is no room for more
pub stays : (q : Progress) {out : List ℕ} {e : ℕ} → e ≤ length out → q.bytes ≡ take e out → Fills (stopped q) out (Full e q.lines) out
stays q {out} {e} h b =
    let n : e ≡ length q.bytes = sym (length-take-le e out h) ∙ ap length (sym b) in
    record { answer = ap (λ (k : ℕ). Full k q.lines) n; result = in_place out e h ∙ ap (λ (v : List ℕ). in_front v out) (sym b) }

-- at the end of the text
module _ (p : Position) (out : List ℕ) (h : p.end ≤ length out) (w : Memory) where
  end-long : length (take p.end out) ≡ p.end
  end-long = length-take-le p.end out h

  module _ {u : Bool} (m : u ≡ unfinished p.numbers.part p.met) where
    -- nothing more is answered
    pub close-none : not u ≡ true → Fills (fill_closing (length out) (progress_of p w out)) out (Done p.end) out
    unfolding fill_closing closing progress_of session_of
    close-none e =
        rw (sym m ∙ not-true u e, append-nil (take p.end out), le-leb (length (take p.end out)) (length out) (omega (arith, end-long)))
        (record { answer = ap Done (sym end-long); result = in_place out p.end h })

    module _ (d : not u ≡ false) {r : Option ℕ} {out' : List ℕ} (x : Placed out p.end (answer_line (Refused Place 0)) r out') where
      long : length (take p.end out ++ answer_line (Refused Place 0)) ≡ p.end + length (answer_line (Refused Place 0))
      long = omega (arith, length-append (take p.end out) (answer_line (Refused Place 0)), end-long)

      pub close-some : (e : ℕ) → r ≡ Some e → Fills (fill_closing (length out) (progress_of p w out)) out (Done e) out'
      unfolding fill_closing closing progress_of session_of
      close-some e q =
          let a = placed_at x e q in
          rw (sym m ∙ not-false u d, le-leb (length (take p.end out ++ answer_line (Refused Place 0))) (length out) (omega (arith, a.end, a.within, long)))
          (record { answer = ap Done (a.end ∙ sym long); result = in-front h a })

      pub close-full : r ≡ None → Fills (fill_closing (length out) (progress_of p w out)) out (Full p.end p.lines) out'
      unfolding fill_closing closing progress_of session_of
      close-full q =
          let a = placed-full x q in
          rw (sym m ∙ not-false u d, lt-leb (length (take p.end out ++ answer_line (Refused Place 0))) (length out) (omega (arith, a.0, long)), a.1)
          (stays (progress_of p w out) h refl)

  module _ {r : Option ℕ} {out' : List ℕ} (x : Placed out p.end (answer_line (Refused Form (p.lines + 1))) r out') (b : ℕ) (s : List ℕ) where
    pub rest-is : (e : ℕ) → r ≡ Some e
        → progress_of (record { numbers = p.numbers; lines = p.lines + 1; met = true; end = e }) w out' ≡ after_rest (progress_of p w out) (b ∷ s)
    unfolding after_rest progress_of reply_bytes answer_bytes
    rest-is e q =
        let a = placed_at x e q in
        ap (λ (v : List ℕ). record { session = session_of p.numbers w; lines = p.lines + 1; met = true; bytes = v }) a.front
        ∙ ap (λ (k : ℕ). record { session = session_of p.numbers w; lines = k; met = true; bytes = take p.end out ++ answer_line (Refused Form k) }) (add-one p.lines)
        ∙ ap (λ (b : Bool). record { session = session_of p.numbers w; lines = suc p.lines; met = b; bytes = take p.end out ++ answer_line (Refused Form (suc p.lines)) })
        (sym (or-true p.met))

    rest-long : length (after_rest (progress_of p w out) (b ∷ s)).bytes ≡ p.end + length (answer_line (Refused Form (p.lines + 1)))
    unfolding after_rest progress_of reply_bytes answer_bytes
    rest-long =
        rw (add-one p.lines) (omega (arith, length-append (take p.end out) (answer_line (Refused Form (suc p.lines))), end-long))

    -- the rest is refused, and the text ends
    pub rest-closed : (e : ℕ) → r ≡ Some e → {q : Ran} {out'' : List ℕ}
        → ((v : Memory) → Fills (fill_closing (length out') (progress_of (record { numbers = p.numbers; lines = p.lines + 1; met = true; end = e }) v out')) out' q out'')
        → Fills (fill_rest (length out) (progress_of p w out) (b ∷ s)) out q out''
    unfolding fill_rest
    rest-closed e i {q} {out''} f =
        let a = placed_at x e i in
        let t = rest-is e i in
        let k : Fills (fill_closing (length out) (after_rest (progress_of p w out) (b ∷ s))) out' q out'' =
        subst (λ (y : Progress). Fills (fill_closing (length out) y) out' q out'') t
        (subst (λ (n : ℕ). Fills (fill_closing n (progress_of (record { numbers = p.numbers; lines = p.lines + 1; met = true; end = e }) w out')) out' q out'') a.long (f w)) in
        let l = rest-long in
        rw (le-leb (length (after_rest (progress_of p w out) (b ∷ s)).bytes) (length out) (omega (arith, a.end, a.within)))
        (fills-over e a.behind (omega (arith, a.end, closing-grows (length out) (after_rest (progress_of p w out) (b ∷ s)))) k)

    pub rest-full : r ≡ None → Fills (fill_rest (length out) (progress_of p w out) (b ∷ s)) out (Full p.end p.lines) out'
    unfolding fill_rest progress_of
    rest-full i =
        let a = placed-full x i in
        let l = rest-long in
        rw (lt-leb (length (after_rest (progress_of p w out) (b ∷ s)).bytes) (length out) (omega (arith, a.0)), a.1)
        (stays (progress_of p w out) h refl)

-- ===== The end of a text that came in blocks =====

module _ (p : Position) (out : List ℕ) {r : Ran} {out' : List ℕ} where
  pub end-closed : {n : ℕ} → p.end ≤ length out → n ≡ 0 → ((w : Memory) → Fills (fill_closing (length out) (progress_of p w out)) out r out')
      → (w : Memory) (s : List ℕ) → length s ≡ n → Fills (fill_rest (length out) (progress_of p w out) s) out r out'
  unfolding progress_of
  end-closed h e f w [] l = rw (rest-none (length out) (progress_of p w out) (omega (arith, length-take-le p.end out h))) (f w)
  end-closed h e f w (b ∷ s) l = absurd (omega arith)

  pub end_rest : {n : ℕ} → (n ≡ 0 → ⊥) → ((w : Memory) (b : ℕ) (s : List ℕ) → Fills (fill_rest (length out) (progress_of p w out) (b ∷ s)) out r out')
      → (w : Memory) (s : List ℕ) → length s ≡ n → Fills (fill_rest (length out) (progress_of p w out) s) out r out'
  end_rest e f w [] l = absurd (e (sym l))
  end_rest e f w (b ∷ s) l = f w b s

-- behind the whole lines of a text
module _ (r : Answered) {out : List ℕ} where
  pub behind-full : r.full ≡ true → r.position.end ≤ length out → (w : Memory) (s : List ℕ)
      → Fills (filled_behind (length out) r.full (progress_of r.position w out) s) out (Full r.position.end r.position.lines) out
  unfolding progress_of
  behind-full f h w s = rw f (stays (progress_of r.position w out) h refl)

  pub behind-end : {a : Ran} {out' : List ℕ} {n : ℕ} → r.full ≡ false → ((w : Memory) (s : List ℕ) → length s ≡ n → Fills (fill_rest (length out) (progress_of r.position w out) s) out a out')
      → (w : Memory) (s : List ℕ) → length s ≡ n → Fills (filled_behind (length out) r.full (progress_of r.position w out) s) out a out'
  behind-end f x w s l = rw f (x w s l)
