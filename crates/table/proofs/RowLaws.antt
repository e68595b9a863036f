-- Laws of rows in a flat list of words, and of the search for a row.
use mathlib.Core.Bool.{Bool, true, false, ◌&&◌, cond}
use mathlib.Core.Path.{◌≡◌, refl, sym, ap, subst, ◌∙◌}
use mathlib.Core.Logic.{⊎_elim}
use mathlib.Core.List.{List, [], ◌∷◌, ◌++◌}
use Prim.Native.Nat.{ℕ, zero, suc, ◌+◌, ◌*◌, ◌<◌, ◌≤◌, suc-le-suc}
use native.Mathlib.Nat.{zero-add, add-suc, suc-add, add-zero, eq-or-lt_of_le, le_of_suc-le-suc}
use native.Mathlib.Numerals.{add-one}
use native.Mathlib.Omega.{arith}
use borrow.Author.Tests.{eqb-true, eq-eqb}
use lib.ListN.{length, get_or, set, drop, length-append, length-set, get_or-append}
use lib.Seq.{get_or_at, get_or-set_same, get_or-set_other, drop-set-lt}
use lib.Dec.{eqb}
use Rattle.basics.specs.Tests.{and_left, and_right}
use Rattle.basics.specs.Members.{clash}
use Rattle.table.specs.declared.Row.{Row}
use Rattle.table.specs.Rows.{row_at, put_at, rows, same_row, first_from, first_in}
use Rattle.std.specs.Prelude.{None, Some}

pub row-ext : (x y : Row) → x.label ≡ y.label → x.high ≡ y.high → x.low ≡ y.low → x ≡ y
row-ext x y p q r = λ i. record { label = p i; high = q i; low = r i }

pub same_true : (x y : Row) → same_row x y ≡ true → x ≡ y
unfolding same_row
same_true x y e =
    let f : eqb x.high y.high && eqb x.low y.low ≡ true = and_right (eqb x.label y.label) _ e in
    row-ext x y (eqb-true _ _ (and_left _ _ e)) (eqb-true _ _ (and_left _ _ f)) (eqb-true _ _ (and_right (eqb x.high y.high) _ f))

pub same_refl : (x : Row) → same_row x x ≡ true
unfolding same_row
same_refl x = rw (eq-eqb x.label x.label refl, eq-eqb x.high x.high refl, eq-eqb x.low x.low refl)

pub same_false : (x y : Row) → same_row x y ≡ false → x ≡ y → ⊥
same_false x y e p =
    let q : same_row x y ≡ true = subst (λ (z : Row). same_row x z ≡ true) p (same_refl x) in
    clash q e

pub ne_same : (x y : Row) → (x ≡ y → ⊥) → same_row x y ≡ false
ne_same x y f = go (same_row x y) refl
  where
    go : (b : Bool) → same_row x y ≡ b → same_row x y ≡ false
    go true e = absurd (f (same_true x y e))
    go false e = e

-- the search, by index
hit : (d : Row) (k : ℕ) (xs : List Row) (r : Row) (i : ℕ) → i < length xs → get_or xs i d ≡ r → ((j : ℕ) → j < i → get_or xs j d ≡ r → ⊥)
    → first_from k xs r ≡ Some (k + i)
unfolding first_from
hit d k [] r i h e f = absurd (omega arith)
hit d k (x ∷ xs) r zero h e f = rw (e, same_refl r, add-zero k)
hit d k (x ∷ xs) r (suc i) h e f =
    rw (ne_same x r (f 0 (omega arith)), hit d (suc k) xs r i (le_of_suc-le-suc h) e (λ j l. f (suc j) (suc-le-suc l)), suc-add k i, add-suc k i)

miss : (d : Row) (k : ℕ) (xs : List Row) (r : Row) → ((j : ℕ) → j < length xs → get_or xs j d ≡ r → ⊥) → first_from k xs r ≡ None
unfolding first_from
miss d k [] r f = refl
miss d k (x ∷ xs) r f = rw (ne_same x r (f 0 (omega arith)), miss d (suc k) xs r (λ j l. f (suc j) (suc-le-suc l)))

pub length-rows : (s : List ℕ) (n : ℕ) → length (rows s n) ≡ n
unfolding rows
length-rows s zero = refl
length-rows s (suc n) = rw (length-append, length-rows s n, add-one)

pub get_d_rows : (s : List ℕ) (d : Row) (n i : ℕ) → i < n → get_or (rows s n) i d ≡ row_at s i
unfolding rows
get_d_rows s d zero i h = absurd (omega arith)
get_d_rows s d (suc n) i h =
    ⊎_elim (λ e. get_or_at (rows s n) (row_at s n) [] d i (length-rows s n ∙ sym e) ∙ ap (row_at s) (sym e))
    (λ l. get_or-append (rows s n) _ d i (rw length-rows l) ∙ get_d_rows s d n i l)
    (eq-or-lt_of_le (le_of_suc-le-suc h))

module _ (s : List ℕ) (n : ℕ) (r : Row) where
  pub found_at : (i : ℕ) → i < n → row_at s i ≡ r → ((j : ℕ) → j < i → row_at s j ≡ r → ⊥) → first_in (rows s n) r ≡ Some i
  unfolding first_in
  found_at i h e f =
      hit r 0 (rows s n) r i (rw length-rows h) (get_d_rows s r n i h ∙ e) (λ j l p. f j l (sym (get_d_rows s r n j (omega arith)) ∙ p))
      ∙ ap Some (zero-add i)

  pub found_none : ((j : ℕ) → j < n → row_at s j ≡ r → ⊥) → first_in (rows s n) r ≡ None
  unfolding first_in
  found_none f = miss r 0 (rows s n) r (λ j l p. let m : j < n = (rw length-rows at l) in f j m (sym (get_d_rows s r n j m) ∙ p))

-- what a call of `same` on a row that was read says
pub said_same : {b : Bool} {x y z : Row} → b ≡ same_row x y → x ≡ z → b ≡ true → z ≡ y
said_same {b} {x} {y} {z} e p t = sym p ∙ same_true x y (sym e ∙ t)

pub said-other : {b : Bool} {x y z : Row} → b ≡ same_row x y → x ≡ z → b ≡ false → z ≡ y → ⊥
said-other {b} {x} {y} {z} e p f q = same_false x y (sym e ∙ f) (p ∙ q)

-- a row that was written
module _ (s : List ℕ) (i : ℕ) (r : Row) where
  pub length-put : length (put_at s i r) ≡ length s
  unfolding put_at
  length-put = simp length-set

  word_out : (k : ℕ) → (k ≡ i * 3 → ⊥) → (k ≡ i * 3 + 1 → ⊥) → (k ≡ i * 3 + 2 → ⊥) → get_or (put_at s i r) k 0 ≡ get_or s k 0
  unfolding put_at
  word_out k p q u = rw (get_or-set_other, get_or-set_other, get_or-set_other)

  pub put_other : (j : ℕ) → (j ≡ i → ⊥) → row_at (put_at s i r) j ≡ row_at s j
  unfolding row_at
  put_other j n =
      row-ext _ _ (word_out (j * 3) (omega arith) (omega arith) (omega arith)) (word_out (j * 3 + 1) (omega arith) (omega arith) (omega arith))
      (word_out (j * 3 + 2) (omega arith) (omega arith) (omega arith))

  pub put_same : i * 3 + 3 ≤ length s → row_at (put_at s i r) i ≡ r
  unfolding row_at put_at
  put_same h =
      let x : List ℕ = set s (i * 3) r.label in
      let y : List ℕ = set x (i * 3 + 1) r.high in
      row-ext _ _
      (get_or-set_other y (i * 3 + 2) (i * 3) r.low 0 (omega arith) ∙ get_or-set_other x (i * 3 + 1) (i * 3) r.high 0 (omega arith) ∙ get_or-set_same s (i * 3) r.label 0 (omega arith))
      (get_or-set_other y (i * 3 + 2) (i * 3 + 1) r.low 0 (omega arith) ∙ get_or-set_same x (i * 3 + 1) r.high 0 (simp length-set (omega arith)))
      (get_or-set_same y (i * 3 + 2) r.low 0 (simp length-set (omega arith)))

  pub drop-put : (n : ℕ) → i * 3 + 2 < n → drop n (put_at s i r) ≡ drop n s
  unfolding put_at
  drop-put n h =
      drop-set-lt n _ (i * 3 + 2) r.low h ∙ drop-set-lt n _ (i * 3 + 1) r.high (omega arith) ∙ drop-set-lt n s (i * 3) r.label (omega arith)

pub rows_ext : (s t : List ℕ) (n : ℕ) → ((i : ℕ) → i < n → row_at s i ≡ row_at t i) → rows s n ≡ rows t n
unfolding rows
rows_ext s t zero h = refl
rows_ext s t (suc n) h = rw (rows_ext s t n (λ i l. h i (omega arith)), h n (omega arith))

pub rows-put : (s : List ℕ) (n : ℕ) (r : Row) → n * 3 + 3 ≤ length s → rows (put_at s n r) (n + 1) ≡ rows s n ++ (r ∷ [])
unfolding rows
rows-put s n r h = rw (add-one n, rows_ext (put_at s n r) s n (λ i l. put_other s n r i (omega arith)), put_same s n r h)

-- the search found nothing: no row is equal
not_at : {i : ℕ} {A : Type 0} → Some i ≡ None → A
not_at e = absurd (let z : ◌≡◌ {A = ℕ} 0 1 = cc in omega arith)

missed : (d : Row) (k : ℕ) (xs : List Row) (r : Row) → first_from k xs r ≡ None → (j : ℕ) → j < length xs → get_or xs j d ≡ r → ⊥
unfolding first_from
missed d k [] r e j h p = omega arith
missed d k (x ∷ xs) r e j h p = go (same_row x r) refl (missed d (suc k) xs r) j h p
  where
    go : (b : Bool) → same_row x r ≡ b → (first_from (suc k) xs r ≡ None → (j : ℕ) → j < length xs → get_or xs j d ≡ r → ⊥)
        → (j : ℕ) → j < suc (length xs) → get_or (x ∷ xs) j d ≡ r → ⊥
    go true q ih j h p = not_at (sym (ap (λ (b : Bool). cond b (Some k) (first_from (suc k) xs r)) q) ∙ e)
    go false q ih zero h p = same_false x r q p
    go false q ih (suc j) h p = ih (sym (ap (λ (b : Bool). cond b (Some k) (first_from (suc k) xs r)) q) ∙ e) j (le_of_suc-le-suc h) p

pub none_found : (s : List ℕ) (n : ℕ) (r : Row) → first_in (rows s n) r ≡ None → (j : ℕ) → j < n → row_at s j ≡ r → ⊥
unfolding first_in
none_found s n r e j h p = missed r 0 (rows s n) r e j (rw length-rows h) (get_d_rows s r n j h ∙ p)
