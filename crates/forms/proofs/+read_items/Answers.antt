use native.Mathlib.Omega.{arith}
use borrow.Author.Tests.{eq-eqb, ne_eqb}
use Rattle.std.specs.Prelude.{◌≡◌, List, ℕ, zero, suc, ◌+◌, ◌≤◌, ◌<◌, length, get_or, drop}
use Rattle.std.proofs.Common.{sym, ap, ◌∙◌, length-drop}
use Rattle.words.specs.ByteLaws.{inside}
use Rattle.forms.specs.declared.Sort.{Sort}
use Rattle.forms.specs.Form.{◌▹◌, form, item_form, many_form}
use Rattle.forms.specs.FormLaws.{form-inv, form-within, item-within, many-within}
use Rattle.forms.proofs.+read_items.Goals as goal
use Rattle.std.specs.Prelude.{Option, Some}

-- b is the byte at the front, a space, and t what the first word's reader answered
module _ (s : List ℕ) (k : Sort) {b : ℕ} {t : Option ℕ} (d : b ≡ get_or s 0 0) (e : b ≡ 32) (h : t ≡ Some 1 ▹ form s (item_form k)) where
  -- the first word's answer decides the rest
  first : (f : ℕ) {r : Option ℕ} → t ≡ r → r ▹ form s (many_form (item_form k) f) ≡ many_form (item_form k) (suc f) s
  unfolding many_form ◌▹◌
  first f q = rw (← d, eq-eqb _ _ e, ← h, q)

  -- the first word lies within the bytes, and takes some
  room : {i : ℕ} → t ≡ Some i → (1 ≤ i) × (i ≤ length s)
  unfolding ◌▹◌
  room {i} q =
      let z : form s (item_form k) 1 ≡ Some i = sym h ∙ q in
      let l = inside s 0 32 (sym d ∙ e) (omega arith) in
      (omega (arith, form-inv s (item_form k) 1 z), form-within (item_form k) (item-within k) s 1 l z)

  -- fewer bytes are left behind it
  less : {i : ℕ} → t ≡ Some i → {u : List ℕ} → u ≡ drop i s → length u < length s
  less {i} q g = omega (arith, ap length g, length-drop i s, room q)

  -- the other words' answer decides the rest
  second : {i : ℕ} → t ≡ Some i → {u : List ℕ} → u ≡ drop i s → {w : Option ℕ} → ((f : ℕ) → length u < f → w ≡ many_form (item_form k) f u)
      → (f : ℕ) {r : Option ℕ} → length s < suc f → w ≡ r → r ▹ (λ m. Some (i + m)) ≡ many_form (item_form k) (suc f) s
  unfolding ◌▹◌ form
  second q g w f l z = rw (← first f q, ← g, ← w f (omega (arith, less q g)), z)

  -- and lies within the bytes
  within : {i : ℕ} → t ≡ Some i → {u : List ℕ} → u ≡ drop i s → {w : Option ℕ} → ((f : ℕ) → length u < f → w ≡ many_form (item_form k) f u)
      → {m : ℕ} → w ≡ Some m → i + m ≤ length s
  within {i} q {u} g w z =
      let y = sym (w (suc (length u)) (omega arith)) ∙ z in
      omega (arith, many-within (item_form k) (item-within k) (suc (length u)) u _ y, ap length g, length-drop i s, room q)

pub returns-then-byte_at-ne32 : goal.returns-then-byte_at-ne32
unfolding many_form
returns-then-byte_at-ne32 t c zero h = absurd (omega arith)
returns-then-byte_at-ne32 t c (suc f) h = rw (← c.byte_at.ensures, ne_eqb _ 32 c.if-byte_at-ne32.true)

pub returns-in_err-i : goal.returns-in_err-i
unfolding ◌▹◌
returns-in_err-i t c zero h = absurd (omega arith)
returns-in_err-i t c (suc f) h =
    rw c.from_residual.ensures
    (first c.args.s.now c.args.sort c.byte_at.ensures c.if-byte_at-ne32.false c.item_after.ensures f c.in_err-i.was)

pub read_items-requires : goal.read_items-requires
read_items-requires t c = (
  omega (
    arith,
    c.decreases,
    less c.args.s.now c.args.sort c.byte_at.ensures c.if-byte_at-ne32.false c.item_after.ensures c.in_ok-i.was c.rest.ensures,
  ),
  tt,
)

pub returns-in_err-m : goal.returns-in_err-m
unfolding ◌▹◌
returns-in_err-m t c zero h = absurd (omega arith)
returns-in_err-m t c (suc f) h =
    rw c.from_residual-in_err-m.ensures
    (second c.args.s.now c.args.sort c.byte_at.ensures c.if-byte_at-ne32.false c.item_after.ensures c.in_ok-i.was
    c.rest.ensures c.read_items.ensures f h c.in_err-m.was)

pub overflow_add-result : goal.overflow_add-result
overflow_add-result t c =
    omega (
      arith,
      c.well_formed,
      within c.args.s.now c.args.sort c.byte_at.ensures c.if-byte_at-ne32.false c.item_after.ensures c.in_ok-i.was
          c.rest.ensures c.read_items.ensures c.in_ok-m.was,
    )

pub returns : goal.returns
unfolding ◌▹◌
returns t c zero h = absurd (omega arith)
returns t c (suc f) h =
    second c.args.s.now c.args.sort c.byte_at.ensures c.if-byte_at-ne32.false c.item_after.ensures c.in_ok-i.was
    c.rest.ensures c.read_items.ensures f h c.in_ok-m.was
