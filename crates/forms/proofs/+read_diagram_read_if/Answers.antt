use native.Mathlib.Omega.{arith}
use borrow.Author.Tests.{eq-eqb, ne_eqb, le-leb, lt-leb}
use Rattle.std.specs.Prelude.{◌≡◌, List, ℕ, zero, suc, ◌+◌, ◌-◌, ◌≤◌, ◌<◌, length, get_or, drop, take}
use Rattle.std.proofs.Common.{sym, ap, ◌∙◌, length-drop}
use Rattle.words.specs.ByteLaws.{inside, part-tail}
use Rattle.forms.specs.Form.{◌▹◌, byte, form, head_form, if_form, diagram_form}
use Rattle.forms.specs.FormLaws.{ends-within, ends-pos, if-within, diagram-within}
use Rattle.forms.proofs.+read_diagram_read_if.Goals as goal
use Rattle.std.specs.Prelude.{Option, Some}

-- the part behind the place i is shorter
shorter : (s : List ℕ) (i : ℕ) → 1 ≤ i → i ≤ length s → length (take (length s - i) (drop i s)) < length s
shorter s i h l = omega (arith, ap length (part-tail i s), length-drop i s)

-- read_diagram: the byte b at the front is a bracket
module _ (s : List ℕ) {b : ℕ} (d : b ≡ get_or s 0 0) (e : b ≡ 40) where
  behind : length (take (length s - 1) (drop 1 s)) < length s
  behind = shorter s 1 (omega (arith, inside s 0 40 (sym d ∙ e) (omega arith))) (inside s 0 40 (sym d ∙ e) (omega arith))

  -- t is what the if form's reader answered: it decides the diagram
  opened : (depth : ℕ) {t : Option ℕ} → depth ≤ 62
      → ((g : ℕ) → length (take (length s - 1) (drop 1 s)) < g → t ≡ if_form (diagram_form g (depth + 1)) (take (length s - 1) (drop 1 s)))
      → (f : ℕ) {r : Option ℕ} → length s < suc f → t ≡ r → r ▹ (λ n. Some (1 + n)) ≡ diagram_form (suc f) depth s
  unfolding diagram_form form
  opened depth l w f h z =
      rw (← d, eq-eqb _ _ e, le-leb _ _ l, ← part-tail 1 s, ← w f (omega (arith, behind)), z)

  opened-within : (depth : ℕ) {t : Option ℕ}
      → ((g : ℕ) → length (take (length s - 1) (drop 1 s)) < g → t ≡ if_form (diagram_form g (depth + 1)) (take (length s - 1) (drop 1 s)))
      → {n : ℕ} → t ≡ Some n → 1 + n ≤ length s
  opened-within depth w z =
      omega (arith, if-within (diagram_form (length s) (depth + 1)) _ _ (sym (w (length s) behind) ∙ z), behind)

-- read_if: a is what the head's reader answered, d reads the diagrams
module _ (s : List ℕ) {a : Option ℕ} (h : a ≡ head_form s) where
  head : (d : List ℕ → Option ℕ) {r : Option ℕ} → a ≡ r → r ▹ form s d ▹ byte s 32 ▹ form s d ▹ byte s 41 ≡ if_form d s
  unfolding if_form
  head d e = rw (← h, e)

  room : {i : ℕ} → a ≡ Some i → (1 ≤ i) × (i ≤ length s)
  unfolding head_form
  room q = let e = sym h ∙ q in (ends-pos _ _ 32 e, ends-within _ _ 32 (omega arith) e)

  left-less : {i : ℕ} → a ≡ Some i → length (take (length s - i) (drop i s)) < length s
  left-less {i} q = shorter s i (room q).0 (room q).1

  -- w is what the first diagram's reader answered
  left : (d : List ℕ → Option ℕ) {i : ℕ} → a ≡ Some i → {w : Option ℕ} → w ≡ d (take (length s - i) (drop i s)) → {r : Option ℕ} → w ≡ r
      → r ▹ (λ n. Some (i + n)) ▹ byte s 32 ▹ form s d ▹ byte s 41 ≡ if_form d s
  unfolding ◌▹◌ form
  left d {i} q y e = rw (← head d q, ← part-tail i s, ← y, e)

  -- b is what the reader of the space behind it answered
  middle : (d : List ℕ → Option ℕ) {i : ℕ} → a ≡ Some i → {w : Option ℕ} → w ≡ d (take (length s - i) (drop i s)) → {n : ℕ} → w ≡ Some n
      → {b : Option ℕ} → b ≡ Some (i + n) ▹ byte s 32 → {r : Option ℕ} → b ≡ r → r ▹ form s d ▹ byte s 41 ≡ if_form d s
  unfolding ◌▹◌ form
  middle d q y z x e = rw (← left d q y z, ← x, e)

-- the place behind the space
module _ (s : List ℕ) (a : Option ℕ) {b : Option ℕ} (x : b ≡ a ▹ byte s 32) where
  room-2 : {j : ℕ} → b ≡ Some j → (1 ≤ j) × (j ≤ length s)
  room-2 q = let e = sym x ∙ q in (ends-pos _ _ 32 e, ends-within _ _ 32 (omega arith) e)

  right-less : {j : ℕ} → b ≡ Some j → length (take (length s - j) (drop j s)) < length s
  right-less {j} q = shorter s j (room-2 q).0 (room-2 q).1

-- v is what the second diagram's reader answered
right : (d : List ℕ → Option ℕ) (s : List ℕ) (j : ℕ) → Some j ▹ form s d ▹ byte s 41 ≡ if_form d s
    → {v : Option ℕ} → v ≡ d (take (length s - j) (drop j s)) → {r : Option ℕ} → v ≡ r
    → r ▹ (λ n. Some (j + n)) ▹ byte s 41 ≡ if_form d s
unfolding ◌▹◌ form
right d s j k y e = rw (← k, ← part-tail j s, ← y, e)

-- a diagram behind the place i lies within the bytes
reached : (s : List ℕ) (i depth : ℕ) → i ≤ length s → length (take (length s - i) (drop i s)) < length s → {w : Option ℕ}
    → ((f : ℕ) → length (take (length s - i) (drop i s)) < f → w ≡ diagram_form f depth (take (length s - i) (drop i s)))
    → {n : ℕ} → w ≡ Some n → i + n ≤ length s
reached s i depth k l w z =
    omega (arith, diagram-within (length s) depth _ _ (sym (w (length s) l) ∙ z), ap length (part-tail i s), length-drop i s)

pub read_diagram-returns-in_err-n : goal.read_diagram-returns-in_err-n
unfolding ◌▹◌
read_diagram-returns-in_err-n t c zero h = absurd (omega arith)
read_diagram-returns-in_err-n t c (suc f) h =
    rw c.from_residual.ensures
    (opened c.args.s.now c.byte_at.ensures c.if-byte_at-eq40.true c.args.depth c.if-depth-le62.true c.read_if.ensures f h c.in_err-n.was)

pub read_diagram-overflow_add-result : goal.read_diagram-overflow_add-result
read_diagram-overflow_add-result t c =
    omega (
      arith,
      c.well_formed,
      opened-within c.args.s.now c.byte_at.ensures c.if-byte_at-eq40.true c.args.depth c.read_if.ensures c.in_ok-n.was,
    )

pub read_diagram-returns-in_ok-n : goal.read_diagram-returns-in_ok-n
unfolding ◌▹◌
read_diagram-returns-in_ok-n t c zero h = absurd (omega arith)
read_diagram-returns-in_ok-n t c (suc f) h =
    opened c.args.s.now c.byte_at.ensures c.if-byte_at-eq40.true c.args.depth c.if-depth-le62.true c.read_if.ensures f h c.in_ok-n.was

pub read_diagram-returns-else-depth-le62 : goal.read_diagram-returns-else-depth-le62
unfolding diagram_form
read_diagram-returns-else-depth-le62 t c zero h = absurd (omega arith)
read_diagram-returns-else-depth-le62 t c (suc f) h =
    rw (← c.byte_at.ensures, eq-eqb _ _ c.if-byte_at-eq40.true, lt-leb _ _ c.if-depth-le62.false)

pub read_diagram-returns-else-byte_at-eq40 : goal.read_diagram-returns-else-byte_at-eq40
unfolding diagram_form
read_diagram-returns-else-byte_at-eq40 t c zero h = absurd (omega arith)
read_diagram-returns-else-byte_at-eq40 t c (suc f) h =
    rw (← c.byte_at.ensures, ne_eqb _ _ c.if-byte_at-eq40.false) c.read_number.ensures

pub read_if-returns-in_err-i : goal.read_if-returns-in_err-i
unfolding ◌▹◌
read_if-returns-in_err-i t c f h =
    rw c.from_residual.ensures (
    head c.args.s.now c.if_head.ensures (diagram_form f (c.args.depth + 1)) c.in_err-i.was
    )

pub read_if-slice_bounds-read_diagram-count : goal.read_if-slice_bounds-read_diagram-count
read_if-slice_bounds-read_diagram-count t c = (room c.args.s.now c.if_head.ensures c.in_ok-i.was).1

pub read_if-slice_bounds-read_diagram-start : goal.read_if-slice_bounds-read_diagram-start
read_if-slice_bounds-read_diagram-start t c = omega (arith, room c.args.s.now c.if_head.ensures c.in_ok-i.was)

pub read_if-read_diagram-requires : goal.read_if-read_diagram-requires
read_if-read_diagram-requires t c = (omega (arith, c.decreases, left-less c.args.s.now c.if_head.ensures c.in_ok-i.was), tt)

pub read_if-returns-in_err-n : goal.read_if-returns-in_err-n
unfolding ◌▹◌
read_if-returns-in_err-n t c f h =
    rw c.from_residual-in_err-n.ensures (
    let l = left-less c.args.s.now c.if_head.ensures c.in_ok-i.was in
    left c.args.s.now c.if_head.ensures (diagram_form f (c.args.depth + 1)) c.in_ok-i.was
    (c.read_diagram.ensures f (omega (arith, l))) c.in_err-n.was
    )

pub read_if-overflow_add-i : goal.read_if-overflow_add-i
read_if-overflow_add-i t c =
    let s = c.args.s.now in
    let l = left-less s c.if_head.ensures c.in_ok-i.was in
    let k = (room s c.if_head.ensures c.in_ok-i.was).1 in
    omega (
      arith,
      c.well_formed,
      reached s c.in_ok-i.i (c.args.depth + 1) k l c.read_diagram.ensures c.in_ok-n.was,
    )

pub read_if-returns-in_err-j : goal.read_if-returns-in_err-j
unfolding ◌▹◌
read_if-returns-in_err-j t c f h =
    rw c.from_residual-in_err-j.ensures (
    let l = left-less c.args.s.now c.if_head.ensures c.in_ok-i.was in
    middle c.args.s.now c.if_head.ensures (diagram_form f (c.args.depth + 1)) c.in_ok-i.was
    (c.read_diagram.ensures f (omega (arith, l))) c.in_ok-n.was c.byte_after.ensures c.in_err-j.was
    )

pub read_if-slice_bounds-read_diagram-count-2 : goal.read_if-slice_bounds-read_diagram-count-2
read_if-slice_bounds-read_diagram-count-2 t c = (room-2 c.args.s.now _ c.byte_after.ensures c.in_ok-j.was).1

pub read_if-slice_bounds-read_diagram-start-2 : goal.read_if-slice_bounds-read_diagram-start-2
read_if-slice_bounds-read_diagram-start-2 t c = omega (arith, room-2 c.args.s.now _ c.byte_after.ensures c.in_ok-j.was)

pub read_if-read_diagram-requires-2 : goal.read_if-read_diagram-requires-2
read_if-read_diagram-requires-2 t c =
    (omega (arith, c.decreases, right-less c.args.s.now _ c.byte_after.ensures c.in_ok-j.was), tt)

pub read_if-returns-in_err-l : goal.read_if-returns-in_err-l
unfolding ◌▹◌
read_if-returns-in_err-l t c f h =
    rw c.from_residual-in_err-l.ensures (
    let s = c.args.s.now in
    let d = diagram_form f (c.args.depth + 1) in
    let l = left-less s c.if_head.ensures c.in_ok-i.was in
    let k = right-less s (Some (c.in_ok-i.i + c.in_ok-n.n)) c.byte_after.ensures c.in_ok-j.was in
    let m = middle s c.if_head.ensures d c.in_ok-i.was (c.read_diagram.ensures f (omega (arith, l))) c.in_ok-n.was
    c.byte_after.ensures c.in_ok-j.was in
    right d s c.in_ok-j.j m (c.read_diagram-2.ensures f (omega (arith, k))) c.in_err-l.was
    )

pub read_if-overflow_add-j : goal.read_if-overflow_add-j
read_if-overflow_add-j t c =
    let s = c.args.s.now in
    let l = right-less s (Some (c.in_ok-i.i + c.in_ok-n.n)) c.byte_after.ensures c.in_ok-j.was in
    let k = (room-2 s _ c.byte_after.ensures c.in_ok-j.was).1 in
    omega (
      arith,
      c.well_formed,
      reached s c.in_ok-j.j (c.args.depth + 1) k l c.read_diagram-2.ensures c.in_ok-l.was,
    )

pub read_if-returns : goal.read_if-returns
unfolding ◌▹◌
read_if-returns t c f h =
    let s = c.args.s.now in
    let d = diagram_form f (c.args.depth + 1) in
    let l = left-less s c.if_head.ensures c.in_ok-i.was in
    let k = right-less s (Some (c.in_ok-i.i + c.in_ok-n.n)) c.byte_after.ensures c.in_ok-j.was in
    let m = middle s c.if_head.ensures d c.in_ok-i.was (c.read_diagram.ensures f (omega (arith, l))) c.in_ok-n.was
    c.byte_after.ensures c.in_ok-j.was in
    let r = right d s c.in_ok-j.j m (c.read_diagram-2.ensures f (omega (arith, k))) c.in_ok-l.was in
    c.byte_after-2.ensures ∙ r
