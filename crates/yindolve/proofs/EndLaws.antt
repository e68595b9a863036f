-- Laws of a run of the program: from block to block, and to its end.
use mathlib.Core.Path.{◌≡◌, refl, sym, ap, subst, ◌∙◌}
use mathlib.Core.Bool.{Bool, true, false, cond, true≢false}
use mathlib.Core.List.{List, [], ◌∷◌}
use Prim.Native.Nat.{ℕ, suc, ◌+◌, ◌*◌, ◌-◌, ◌<◌, ◌≤◌}
use native.Mathlib.Omega.{arith}
use native.Mathlib.Decide.{dec_lt}
use borrow.Author.Tests.{ltb-true, ltb-false, le-ltb}
use lib.Dec.{ltb}
use lib.ListN.{length, take, drop}
use lib.Seq.{length-take-le, take_all}
use Rattle.answers.specs.Writing.{most_bytes}
use Rattle.session.specs.Texts.{Lines, lines_of, Progress, beginning}
use Rattle.memory.specs.Memory.{Memory}
use Rattle.pipes.specs.declared.Flow.{Flow}
use Rattle.pipes.specs.declared.Flow.TheVariants.{Open, Ended, Unread, Unwritten, TooLong}
use Rattle.pipes.specs.declared.Tally.{Tally}
use Rattle.pipes.specs.Tally.{started, is_open, stopped, Writes}
use Rattle.texts.specs.declared.Position.{Position}
use Rattle.texts.specs.declared.Answered.{Answered}
use Rattle.texts.specs.declared.Rest.{Rest}
use Rattle.texts.specs.Ends.{line_length}
use Rattle.texts.specs.LineLaws.{line-within, lines-first, lines_none, line-front}
use Rattle.texts.specs.Inner.{progress_of, Started, rest_of, Keeps, behind_written, whole_of, Reaches}
use Rattle.texts.specs.Sending.{most_lines}
use Rattle.texts.specs.Streaming.{line_room, fresh, on_bytes, stream_start}
use Rattle.texts.specs.Whole.{Whole, whole_from}
use Rattle.texts.specs.WholeLaws.{whole-some}
use Rattle.yindolve.specs.declared.Refilled.{Refilled}
use Rattle.yindolve.specs.Program.{Refills, empty_at, InHand}
use Rattle.yindolve.proofs.HandLaws.{Fill, fill, refilled, answered, left-few, wrote-read, wrote-flow}

clash : {A : Type 0} {b : Bool} → b ≡ true → b ≡ false → A
clash p q = absurd (true≢false (sym p ∙ q))

differ : {A : Type 0} → ◌≡◌ {A = ℕ} 0 1 → A
differ e = absurd (omega arith)

take_none : (s : List ℕ) → take 0 s ≡ []
take_none [] = refl
take_none (b ∷ s) = refl

drop-none : (s : List ℕ) → drop 0 s ≡ s
drop-none [] = refl
drop-none (b ∷ s) = refl

-- ===== Whole lines among bytes =====

no_line : (s : List ℕ) → (lines_of s).whole ≡ [] → ltb (line_length s) (length s) ≡ false
no_line s e = go (ltb (line_length s) (length s)) refl
  where
    go : (b : Bool) → ltb (line_length s) (length s) ≡ b → ltb (line_length s) (length s) ≡ false
    go true q = absurd (let z = ap length (sym (ap (λ (t : Lines). t.whole) (lines-first s (ltb-true (line_length s) (length s) q))) ∙ e) in omega arith)
    go false q = q

none-whole : (s : List ℕ) → ltb (line_length s) (length s) ≡ false → (lines_of s).whole ≡ []
none-whole s q = ap (λ (t : Lines). t.whole) (lines_none s (omega (arith, ltb-false (line_length s) (length s) q, line-within s)))

rest-same : (s : List ℕ) → ltb (line_length (rest_of s)) (length (rest_of s)) ≡ ltb (line_length s) (length s)
unfolding rest_of
rest-same s = go (ltb (line_length s) (length s)) refl
  where
    go : (b : Bool) → ltb (line_length s) (length s) ≡ b → ltb (line_length (cond b s (take line_room s))) (length (cond b s (take line_room s))) ≡ b
    go true q = q
    go false q =
        let e = line-front line_room s (omega (arith, ltb-false (line_length s) (length s) q, line-within s)) in
        le-ltb (line_length (take line_room s)) (length (take line_room s)) (omega arith)

rest-room : (s : List ℕ) → ltb (line_length s) (length s) ≡ false → length (rest_of s) ≤ line_room
unfolding rest_of
rest-room s q = rw q (short (dec_lt (length s) line_room))
  where
    short : Dec (length s < line_room) → length (take line_room s) ≤ line_room
    short (yes h) = omega (arith, ap length (take_all line_room s (omega arith)))
    short (no h) = omega (arith, length-take-le line_room s (omega arith))

-- ===== From block to block =====

pub record Run (t : Tally) (open? : Bool) (p : Position) (rest : Rest) (w : Memory) (block out : List ℕ) : Type 0 where
  pub hand : InHand t p rest.count w block out
  pub open_is : open? ≡ is_open t.flow
  pub inside : rest.count ≤ length block
  pub whole : rest.whole ≡ ltb (line_length (take rest.count block)) (length (take rest.count block))
  pub few : rest.whole ≡ false → rest.count ≤ line_room
  pub over : is_open t.flow ≡ false → (t.flow ≡ Unwritten → ⊥) → rest.whole ≡ false
  pub far : t.flow ≡ TooLong → most_lines ≤ t.read + length block
  pub counts : t.read < most_lines

pub run-first : {p : Position} {w : Memory} {out : List ℕ} (block : List ℕ) → Started p w out → Run started true p (record { count = 0; whole = false }) w block out
unfolding on_bytes stream_start beginning line_length progress_of
run-first {p} {w} {out} block st = record {
  hand = record {
    text = [];
    answers = [];
    read = refl;
    written = λ o. refl;
    is = ap (λ (s : List ℕ). behind_written [] (on_bytes (fresh (progress_of p w out)) s)) (take_none block) ∙ ap (λ (q : Progress). behind_written [] (fresh q)) st.is;
    none = st.end;
    lines = omega (arith, ap (λ (q : Progress). q.lines) st.is);
    kept = st.going.kept;
  };
  open_is = refl;
  inside = omega arith;
  whole = sym (ap (λ (s : List ℕ). ltb (line_length s) (length s)) (take_none block));
  few = λ e. omega arith;
  over = λ e o. refl;
  far = λ e. differ (cc);
  counts = omega arith;
}

pub run-start : {t : Tally} {p : Position} {w : Memory} {out : List ℕ} (block : List ℕ) → t ≡ started → Started p w out
    → Run t true p (record { count = 0; whole = false }) w block out
run-start {t} {p} {w} {out} block e st = subst (λ (z : Tally). Run z true p (record { count = 0; whole = false }) w block out) (sym e) (run-first block st)

-- it goes on
opened : (f : Flow) → is_open f ≡ true → f ≡ Open
opened Open e = refl
opened Ended e = clash e refl
opened Unread e = clash e refl
opened Unwritten e = clash e refl
opened TooLong e = clash e refl

pub still : {t : Tally} {b : Bool} {p : Position} {rest : Rest} {w : Memory} {block out : List ℕ} → Run t b p rest w block out → b ≡ true → t.flow ≡ Unwritten → ⊥
still {t} x b e = let q = opened t.flow (sym x.open_is ∙ b) in let z : ◌≡◌ {A = ℕ} 0 1 = cc in omega arith

-- there is room to read
pub free : {t : Tally} {b : Bool} {p : Position} {rest : Rest} {w : Memory} {block out : List ℕ} → Run t b p rest w block out → line_room < length block
    → rest.whole ≡ false → rest.count < length block
free x h e = omega (arith, x.few e)

fill-reads : {t : Tally} {rest : Rest} {n : ℕ} {r : Refilled} → Fill t rest n r → t.read < most_lines → r.tally.read < most_lines
fill-reads (Fill.whole b e n) h = omega (arith, ap (λ (u : Tally). u.read) e)
fill-reads (Fill.more b k z l m e n) h = omega (arith, ap (λ (u : Tally). u.read) e)
fill-reads (Fill.last b f i o v e n) h = omega (arith, ap (λ (u : Tally). u.read) e)

module _ {t : Tally} {open? : Bool} {p : Position} {rest : Rest} {w : Memory} {block out : List ℕ} (x : Run t open? p rest w block out) (b : open? ≡ true)
    {f : Refilled} {block' : List ℕ} (y : Refills t rest block f block') (l : length block' ≡ length block) where
  pub taken : InHand f.tally p f.n w block' out × (f.n ≤ length block')
  taken = refilled x.hand (still x b) y x.inside l

  pub reads : f.tally.read < most_lines
  reads = fill-reads (fill y) x.counts

  flow : t.flow ≡ Open
  flow = opened t.flow (sym x.open_is ∙ b)

  module _ {r : Answered} {w' : Memory} {out' : List ℕ} (room : most_bytes ≤ length out)
      (a : Reaches (take f.n block') 0 most_bytes (progress_of p w out) (whole_of (take f.n block') 0 most_bytes (progress_of p w out) out) out r w' out')
      {u : Tally} (v : Writes f.tally (length (take r.position.end out')) u) {rest' : Rest} {block'' : List ℕ}
      (z : Keeps (drop r.at (take f.n block')) rest' block'') (k : length block'' ≡ length block') where
    same_bytes : f.n ≡ rest.count → take f.n block' ≡ take rest.count block
    same_bytes n = ap (λ (i : ℕ). take i block') n ∙ y.front

    -- the input went on no more: no whole line is left
    no_more : rest.whole ≡ false → f.n ≡ rest.count → rest'.whole ≡ false
    unfolding whole_from
    no_more c n =
        let q : ltb (line_length (take f.n block')) (length (take f.n block')) ≡ false =
        ap (λ (s : List ℕ). ltb (line_length s) (length s)) (same_bytes n) ∙ sym x.whole ∙ c in
        let e : (lines_of (drop 0 (take f.n block'))).whole ≡ [] = ap (λ (s : List ℕ). (lines_of s).whole) (drop-none (take f.n block')) ∙ none-whole (take f.n block') q in
        let g : (lines_of (drop r.at (take f.n block'))).whole ≡ [] =
        ap (λ (t : Lines). t.whole) a.left ∙ ap (λ (ls : List (List ℕ)). (whole_from most_bytes (length out) (progress_of p w out) ls).left) e in
        z.whole ∙ no_line (drop r.at (take f.n block')) g

    -- a whole line is answered, where there is one
    bytes-none : length (progress_of p w out).bytes ≡ 0
    unfolding progress_of
    bytes-none = ap (λ (i : ℕ). length (take i out)) x.hand.none ∙ ap length (take_none out)

    some-line : rest.whole ≡ true → f.n ≡ rest.count → 0 < r.at
    some-line c n = go (dec_lt 0 r.at)
      where
        h : line_length (take f.n block') < length (take f.n block')
        h = ltb-true (line_length (take f.n block')) (length (take f.n block'))
            (ap (λ (s : List ℕ). ltb (line_length s) (length s)) (same_bytes n) ∙ sym x.whole ∙ c)

        ls : List (List ℕ)
        ls = (lines_of (drop (suc (line_length (take f.n block'))) (take f.n block'))).whole

        go : Dec (0 < r.at) → 0 < r.at
        go (yes q) = q
        go (no q) =
            let o : r.at ≡ 0 = omega arith in
            let e : (lines_of (drop 0 (take f.n block'))).whole ≡ take (line_length (take f.n block')) (take f.n block') ∷ ls =
            ap (λ (t : List ℕ). (lines_of t).whole) (drop-none (take f.n block')) ∙ ap (λ (t : Lines). t.whole) (lines-first (take f.n block') h) in
            let Y : List (List ℕ) → Whole = λ (t : List (List ℕ)). whole_from most_bytes (length out) (progress_of p w out) t in
            let m : (Y (lines_of (drop 0 (take f.n block'))).whole).full ≡ false = sym a.full ∙ a.never (omega arith) in
            let g = whole-some most_bytes (length out) (progress_of p w out) (take (line_length (take f.n block')) (take f.n block')) ls (omega (arith, bytes-none, room))
            (ap (λ (t : List (List ℕ)). (Y t).full) (sym e) ∙ m) in
            let d : (lines_of (drop 0 (take f.n block'))).whole ≡ (Y (lines_of (drop 0 (take f.n block'))).whole).left =
            ap (λ (i : ℕ). (lines_of (drop i (take f.n block'))).whole) (sym o) ∙ ap (λ (t : Lines). t.whole) a.left in
            absurd (omega (arith, ap length (sym e ∙ d ∙ ap (λ (t : List (List ℕ)). (Y t).left) e), g))

    by : Fill t rest (length block - rest.count) f → is_open u.flow ≡ false → (u.flow ≡ Unwritten → ⊥) → rest'.whole ≡ false
    by (Fill.whole c e n) i o = clash (ap is_open (wrote-flow v o ∙ ap (λ (q : Tally). q.flow) e ∙ flow)) i
    by (Fill.more c h q m g e n) i o = clash (ap is_open (wrote-flow v o ∙ ap (λ (q : Tally). q.flow) e)) i
    by (Fill.last c g h q m e n) i o = no_more c n

    long : Fill t rest (length block - rest.count) f → u.flow ≡ TooLong → most_lines ≤ u.read + length block''
    long (Fill.whole c e n) i =
        let q = wrote-flow v (λ s. differ (cc)) ∙ ap (λ (q : Tally). q.flow) e ∙ flow in differ (cc)
    long (Fill.more c h q m g e n) i =
        let q = wrote-flow v (λ s. differ (cc)) ∙ ap (λ (q : Tally). q.flow) e in differ (cc)
    long (Fill.last c g h q m e n) i =
        let d = m (sym (ap (λ (q : Tally). q.flow) e) ∙ sym (wrote-flow v (λ s. differ (cc))) ∙ i) in
        omega (arith, d, wrote-read v, ap (λ (q : Tally). q.read) e)

    next : {b' : Bool} → b' ≡ is_open u.flow → Run u b' (empty_at r.position) rest' w' block'' out'
    next o = record {
      hand = answered taken.0 taken.1 a a.going.within v z;
      open_is = o;
      inside = omega (arith, left-few taken.0 taken.1 a z, taken.1);
      whole = z.whole ∙ sym (rest-same (drop r.at (take f.n block'))) ∙ ap (λ (s : List ℕ). ltb (line_length s) (length s)) (sym z.is);
      few = λ e. omega (arith, z.count, rest-room (drop r.at (take f.n block')) (sym z.whole ∙ e));
      over = by (fill y);
      far = long (fill y);
      counts = omega (arith, wrote-read v, reads);
    }

    pub run-next : {q : Position} → q ≡ empty_at r.position → {b' : Bool} → b' ≡ is_open u.flow → Run u b' q rest' w' block'' out'
    run-next {q} i {b'} o = subst (λ (g : Position). Run u b' g rest' w' block'' out') (sym i) (next o)

    pub run-less : {b' : Bool} → b' ≡ is_open u.flow
        → (most_lines - u.read) * 2 + rest'.count + cond b' 1 0 < (most_lines - t.read) * 2 + rest.count + cond open? 1 0
    run-less {b'} o = rw b (go (fill y))
      where
        one : (c : Bool) → cond c 1 0 ≤ 1
        one true = omega arith
        one false = omega arith

        m : rest'.count ≤ f.n - r.at
        m = left-few taken.0 taken.1 a z

        off : (c : Bool) → c ≡ false → cond c 1 0 ≤ 0
        off true e = clash refl e
        off false e = omega arith

        shut : (g : Flow) → is_open g ≡ false → f.tally ≡ stopped t g → is_open u.flow ≡ false
        shut g h e = written? v
          where
            written? : Writes f.tally (length (take r.position.end out')) u → is_open u.flow ≡ false
            written? (Writes.all i) = ap (λ (q : Tally). is_open q.flow) i ∙ ap (λ (q : Tally). is_open q.flow) e ∙ h
            written? (Writes.failed i) = ap (λ (q : Tally). is_open q.flow) i

        go : Fill t rest (length block - rest.count) f → (most_lines - u.read) * 2 + rest'.count + cond b' 1 0 < (most_lines - t.read) * 2 + rest.count + 1
        go (Fill.whole c e n) = omega (arith, m, one b', some-line c n, a.inside, length-take-le f.n block' taken.1, wrote-read v, ap (λ (q : Tally). q.read) e)
        go (Fill.more c h q i g e n) = omega (arith, m, one b', wrote-read v, ap (λ (q : Tally). q.read) e)
        go (Fill.last c g h q i e n) = omega (arith, m, off b' (o ∙ shut g h e), wrote-read v, ap (λ (q : Tally). q.read) e)
