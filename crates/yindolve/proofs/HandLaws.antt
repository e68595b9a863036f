-- Laws of what is in hand from block to block.
use mathlib.Core.Path.{◌≡◌, refl, sym, ap, ◌∙◌}
use mathlib.Core.Bool.{Bool, true, false, cond, true≢false}
use mathlib.Core.List.{List, [], ◌∷◌, ◌++◌, append_assoc, append-nil}
use Prim.Native.Nat.{ℕ, ◌+◌, ◌-◌, ◌<◌, ◌≤◌}
use native.Mathlib.Omega.{arith}
use native.Mathlib.Decide.{dec_lt}
use lib.Dec.{ltb}
use lib.ListN.{length, take, drop, length-append, length-drop, take-append-drop}
use lib.Seq.{length-take-le, take_all, take-add}
use Rattle.answers.specs.Writing.{most_bytes}
use Rattle.session.specs.Texts.{Progress}
use Rattle.memory.specs.Memory.{Memory, work_words}
use Rattle.pipes.specs.declared.Flow.{Flow}
use Rattle.pipes.specs.declared.Flow.TheVariants.{Ended, Unread, Unwritten, TooLong}
use Rattle.pipes.specs.declared.Tally.{Tally}
use Rattle.pipes.specs.Tally.{is_open, counted, stopped, written, Got, Reads, Writes}
use Rattle.texts.specs.declared.Position.{Position}
use Rattle.texts.specs.declared.Answered.{Answered}
use Rattle.texts.specs.declared.Rest.{Rest}
use Rattle.texts.specs.Ends.{line_length}
use Rattle.texts.specs.Inner.{progress_of, rest_of, Keeps, behind_written, Answerable, Reaches}
use Rattle.texts.specs.Sending.{most_lines}
use Rattle.texts.specs.Streaming.{line_room, Stream, fresh, on_bytes, stream_start}
use Rattle.texts.specs.StreamLaws.{bytes-append, written_apart, rest-line}
use Rattle.texts.specs.Whole.{Whole}
use Rattle.yindolve.specs.declared.Refilled.{Refilled}
use Rattle.yindolve.specs.Program.{Refills, empty_at, InHand}

clash : {A : Type 0} {b : Bool} → b ≡ true → b ≡ false → A
clash p q = absurd (true≢false (sym p ∙ q))

take_none : (s : List ℕ) → take 0 s ≡ []
take_none [] = refl
take_none (b ∷ s) = refl

drop-none : (s : List ℕ) → drop 0 s ≡ s
drop-none [] = refl
drop-none (b ∷ s) = refl

-- the lengths of what is lent stay
pub record Lengths (w₀ : Memory) (work₀ block₀ out₀ : List ℕ) (w : Memory) (work block out : List ℕ) : Type 0 where
  pub names : length w.names ≡ length w₀.names
  pub arities : length w.arities ≡ length w₀.arities
  pub listings : length w.listings ≡ length w₀.listings
  pub table : length w.table ≡ length w₀.table
  pub state : length w.state ≡ length w₀.state
  pub value : length w.value ≡ length w₀.value
  pub working : length work ≡ length work₀
  pub blocks : length block ≡ length block₀
  pub buffer : length out ≡ length out₀

-- ===== Reading on =====

-- so many bytes more stand behind those in hand
add : {t : Tally} {p : Position} {c : ℕ} {w : Memory} {block out block' : List ℕ} → InHand t p c w block out → (t.flow ≡ Unwritten → ⊥)
    → take c block' ≡ take c block → (u : Tally) (k n : ℕ) → c + k ≤ length block' → u.read ≡ t.read + k → u.written ≡ t.written → n ≡ c + k
    → InHand u p n w block' out
add {t} {p} {c} {w} {block} {out} {block'} x o f u k n h r v e =
    let new : List ℕ = take k (drop c block') in
    let a : List ℕ = x.answers in
    let Q : Progress = progress_of p w out in
    let l : length new ≡ k = length-take-le k (drop c block') (omega (arith, length-drop c block')) in
    let b : take n block' ≡ take c block ++ new = ap (λ (i : ℕ). take i block') e ∙ take-add c k block' ∙ ap (λ (z : List ℕ). z ++ new) f in
    record {
      text = x.text ++ new;
      answers = a;
      read = length-append x.text new ∙ (λ i. x.read i + l i) ∙ sym r;
      written = λ z. x.written o ∙ sym v;
      is = ap (λ (z : List ℕ). behind_written a (on_bytes (fresh Q) z)) b
          ∙ ap (behind_written a) (bytes-append (fresh Q) (take c block) new)
          ∙ sym (written_apart a (on_bytes (fresh Q) (take c block)) new)
          ∙ ap (λ (z : Stream). on_bytes z new) x.is
          ∙ sym (bytes-append stream_start x.text new);
      none = x.none;
      lines = omega (arith, x.lines);
      kept = x.kept;
    }

-- the function that reads on
pub refill-whole : (t : Tally) (rest : Rest) (block : List ℕ) → rest.whole ≡ true → Refills t rest block (record { tally = t; n = rest.count }) block
refill-whole t rest block e = record { front = refl; whole = λ b. (refl, refl); read = λ b. clash e b }

got_last : {t : Tally} {free : ℕ} {u : Tally} → Got t free u → u.last ≤ free
got_last (Got.bytes n z l m e) = omega (arith, ap (λ (v : Tally). v.last) e)
got_last (Got.end e) = omega (arith, ap (λ (v : Tally). v.last) e)
got_last (Got.failed e) = omega (arith, ap (λ (v : Tally). v.last) e)
got_last (Got.many l e) = omega (arith, ap (λ (v : Tally). v.last) e)

pub refill-room : {t : Tally} {block : List ℕ} {c : ℕ} {u : Tally} {block' : List ℕ} → Reads t block c u block' → {m : ℕ} → m ≡ u.last → c ≤ length block → c + m ≤ length block
refill-room x e h = omega (arith, got_last x.got)

pub refill-read : {t : Tally} (rest : Rest) {block : List ℕ} {u : Tally} {block' : List ℕ} → rest.whole ≡ false → Reads t block rest.count u block' → {m : ℕ} → m ≡ u.last
    → Refills t rest block (record { tally = u; n = rest.count + m }) block'
refill-read rest b x e = record { front = x.front; whole = λ c. clash c b; read = λ c. (x.got, ap (λ (i : ℕ). rest.count + i) e) }

-- what reading on gives
pub data Fill (t : Tally) (rest : Rest) (free : ℕ) (r : Refilled) : Type 0 where
  whole : rest.whole ≡ true → r.tally ≡ t → r.n ≡ rest.count → Fill t rest free r
  more : rest.whole ≡ false → (k : ℕ) → 0 < k → k ≤ free → t.read + k < most_lines → r.tally ≡ counted t k → r.n ≡ rest.count + k → Fill t rest free r
  last : rest.whole ≡ false → (f : Flow) → is_open f ≡ false → (f ≡ Unwritten → ⊥) → (f ≡ TooLong → most_lines ≤ t.read + free) → r.tally ≡ stopped t f
      → r.n ≡ rest.count → Fill t rest free r

differ : {A : Type 0} → ◌≡◌ {A = ℕ} 0 1 → A
differ e = absurd (omega arith)

pub fill : {t : Tally} {rest : Rest} {block : List ℕ} {r : Refilled} {block' : List ℕ} → Refills t rest block r block' → Fill t rest (length block - rest.count) r
fill {t} {rest} {block} {r} x = go rest.whole refl
  where
    none : (f : Flow) → r.tally ≡ stopped t f → r.n ≡ rest.count + r.tally.last → r.n ≡ rest.count
    none f e n = n ∙ ap (λ (u : Tally). rest.count + u.last) e ∙ plus rest.count
      where
        plus : (c : ℕ) → c + 0 ≡ c
        plus c = omega arith

    of : rest.whole ≡ false → Got t (length block - rest.count) r.tally → r.n ≡ rest.count + r.tally.last → Fill t rest (length block - rest.count) r
    of b (Got.bytes k z l m e) n = more b k z l m e (n ∙ ap (λ (u : Tally). rest.count + u.last) e)
    of b (Got.end e) n = last b Ended refl (λ q. differ (cc)) (λ q. differ (cc)) e (none Ended e n)
    of b (Got.failed e) n = last b Unread refl (λ q. differ (cc)) (λ q. differ (cc)) e (none Unread e n)
    of b (Got.many l e) n = last b TooLong refl (λ q. differ (cc)) (λ q. l) e (none TooLong e n)

    go : (b : Bool) → rest.whole ≡ b → Fill t rest (length block - rest.count) r
    go true b = let y = x.whole b in whole b y.0 y.1
    go false b = let y = x.read b in of b y.0 y.1

pub refilled : {t : Tally} {p : Position} {rest : Rest} {w : Memory} {block out : List ℕ} {r : Refilled} {block' : List ℕ} → InHand t p rest.count w block out
    → (t.flow ≡ Unwritten → ⊥) → Refills t rest block r block' → rest.count ≤ length block → length block' ≡ length block
    → InHand r.tally p r.n w block' out × (r.n ≤ length block')
refilled {t} {p} {rest} {w} {block} {out} {r} {block'} x o f h l = go (fill f)
  where
    go : Fill t rest (length block - rest.count) r → InHand r.tally p r.n w block' out × (r.n ≤ length block')
    go (whole b e n) =
        (add x o f.front r.tally 0 r.n (omega arith) (ap (λ (u : Tally). u.read) e ∙ zero_more t.read) (ap (λ (u : Tally). u.written) e) (n ∙ zero_more rest.count), omega arith)
      where
        zero_more : (c : ℕ) → c ≡ c + 0
        zero_more c = omega arith
    go (more b k z m q e n) =
        (add x o f.front r.tally k r.n (omega arith) (ap (λ (u : Tally). u.read) e) (ap (λ (u : Tally). u.written) e) n, omega arith)
    go (last b g i u v e n) =
        (add x o f.front r.tally 0 r.n (omega arith) (ap (λ (u : Tally). u.read) e ∙ zero_more t.read) (ap (λ (u : Tally). u.written) e) (n ∙ zero_more rest.count), omega arith)
      where
        zero_more : (c : ℕ) → c ≡ c + 0
        zero_more c = omega arith

-- ===== Answering =====

behind-twice : (a b : List ℕ) (t : Stream) → behind_written (a ++ b) t ≡ behind_written a (behind_written b t)
behind-twice a b t =
    ap (λ (v : List ℕ). record {
      progress = record { session = t.progress.session; lines = t.progress.lines; met = t.progress.met; bytes = v };
      partial = t.partial;
    }) (append_assoc a b t.progress.bytes)

-- the answers of a position stand behind none
emptied-is : (p : Position) (w : Memory) (out : List ℕ) → fresh (progress_of p w out) ≡ behind_written (take p.end out) (fresh (progress_of (empty_at p) w out))
unfolding progress_of
emptied-is p w out =
    ap (λ (v : List ℕ). fresh (record { session = (progress_of p w out).session; lines = p.lines; met = p.met; bytes = v }))
    (sym (ap (λ (v : List ℕ). take p.end out ++ v) (take_none out) ∙ append-nil (take p.end out)))

pub wrote-read : {t : Tally} {k : ℕ} {u : Tally} → Writes t k u → u.read ≡ t.read
wrote-read (Writes.all e) = ap (λ (v : Tally). v.read) e
wrote-read (Writes.failed e) = ap (λ (v : Tally). v.read) e

pub wrote-flow : {t : Tally} {k : ℕ} {u : Tally} → Writes t k u → (u.flow ≡ Unwritten → ⊥) → u.flow ≡ t.flow
wrote-flow (Writes.all e) o = ap (λ (v : Tally). v.flow) e
wrote-flow (Writes.failed e) o = absurd (o (ap (λ (v : Tally). v.flow) e))

wrote_count : {t : Tally} {k : ℕ} {u : Tally} → Writes t k u → (u.flow ≡ Unwritten → ⊥) → u.written ≡ t.written + k
wrote_count (Writes.all e) o = ap (λ (v : Tally). v.written) e
wrote_count (Writes.failed e) o = absurd (o (ap (λ (v : Tally). v.flow) e))

lines_of : (p : Position) (w : Memory) (out : List ℕ) → (progress_of p w out).lines ≡ p.lines
unfolding progress_of
lines_of p w out = refl

rest-few : (s : List ℕ) → length (rest_of s) ≤ length s
unfolding rest_of
rest-few s = go (ltb (line_length s) (length s))
  where
    short : Dec (length s < line_room) → length (take line_room s) ≤ length s
    short (yes h) = omega (arith, ap length (take_all line_room s (omega arith)))
    short (no h) = omega (arith, length-take-le line_room s (omega arith))

    go : (b : Bool) → length (cond b s (take line_room s)) ≤ length s
    go true = omega arith
    go false = short (dec_lt (length s) line_room)

module _ {t : Tally} {p : Position} {n : ℕ} {w : Memory} {block out : List ℕ} (x : InHand t p n w block out) (h : n ≤ length block) where
  -- all that is in hand may be answered
  pub answerable : {work : List ℕ} → t.read < most_lines → work_words ≤ length work → Answerable (take n block) 0 p w work out
  answerable m l = record {
    inside = omega arith;
    going = record { kept = x.kept; within = omega (arith, x.none) };
    lines = omega (arith, x.lines, length-take-le n block h);
    work-room = l;
  }

  module _ {r : Answered} {w' : Memory} {out' : List ℕ} {y : Whole} (a : Reaches (take n block) 0 most_bytes (progress_of p w out) y out r w' out') where
    -- up to the place the bytes are answered
    place : on_bytes (fresh (progress_of p w out)) (take n block) ≡ on_bytes (fresh (progress_of r.position w' out')) (drop r.at (take n block))
    place =
        let S : List ℕ = take n block in
        let Q : Progress = progress_of p w out in
        let k : r.at - 0 ≡ r.at = omega arith in
        let b = a.bytes (a.never (omega arith)) in
        ap (on_bytes (fresh Q)) (sym (take-append-drop r.at S)) ∙ bytes-append (fresh Q) (take r.at S) (drop r.at S)
        ∙ ap (λ (z : Stream). on_bytes z (drop r.at S))
        (sym (ap (λ (i : ℕ). on_bytes (fresh Q) (take i (drop 0 S))) k ∙ ap (λ (z : List ℕ). on_bytes (fresh Q) (take r.at z)) (drop-none S)) ∙ b)

    pub left-few : {rest : Rest} {block' : List ℕ} → Keeps (drop r.at (take n block)) rest block' → rest.count ≤ n - r.at
    left-few z = omega (arith, z.count, rest-few (drop r.at (take n block)), length-drop r.at (take n block), length-take-le n block h)

    pub answered : {u : Tally} {rest : Rest} {block' : List ℕ} → r.position.end ≤ length out' → Writes t (length (take r.position.end out')) u
        → Keeps (drop r.at (take n block)) rest block' → InHand u (empty_at r.position) rest.count w' block' out'
    answered {u} {rest} {block'} g v z =
        let E : List ℕ = take r.position.end out' in
        let D : List ℕ = drop r.at (take n block) in
        let P : Progress = progress_of (empty_at r.position) w' out' in
        record {
          text = x.text;
          answers = x.answers ++ E;
          read = x.read ∙ sym (wrote-read v);
          written = λ o.
              length-append x.answers E
              ∙ ap (λ (i : ℕ). i + length E) (x.written (λ q. o (wrote-flow v o ∙ q)))
              ∙ sym (wrote_count v o);
          is = behind-twice x.answers E (on_bytes (fresh P) (take rest.count block'))
              ∙ ap (λ (s : List ℕ). behind_written x.answers (behind_written E (on_bytes (fresh P) s))) z.is
              ∙ ap (λ (s : Stream). behind_written x.answers (behind_written E s)) (rest-line P D)
              ∙ ap (behind_written x.answers) (sym (written_apart E (fresh P) D))
              ∙ ap (λ (s : Stream). behind_written x.answers (on_bytes s D)) (sym (emptied-is r.position w' out'))
              ∙ ap (behind_written x.answers) (sym place)
              ∙ x.is;
          none = refl;
          lines = omega (arith, x.lines, a.lines, lines_of p w out, left-few z, length-take-le n block h, wrote-read v, a.inside);
          kept = a.going.kept;
        }
