-- Looking literals up among those of the first path: known places, what a label becomes, the search in order.
use mathlib.Core.Path.{◌≡◌, refl, sym, ap, ap₂, subst, ◌∙◌}
use mathlib.Core.Bool.{Bool, true, false, not}
use mathlib.Core.List.{List, [], ◌∷◌}
use Prim.Native.Nat.{ℕ, zero, suc, ◌+◌, ◌-◌, ◌*◌, ◌/◌, ◌%◌, ◌≤◌, ◌<◌}
use native.Mathlib.Omega.{arith}
use native.Mathlib.Numerals.{add-one}
use lib.ListN.{length, get_or}
use lib.Dec.{eqb, leb}
use borrow.Author.Tests.{le-leb, lt-leb, leb-true}
use Rattle.basics.specs.Tests.{Cmp, cmp, below, equal, above}
use Rattle.basics.specs.Members.{clash}
use Rattle.label.specs.Limits.{first_minimum, term_base, predicate_count, most_places, equality}
use Rattle.label.specs.Labels.{predicate_of, place_at, atom_from, packed, equates}
use Rattle.label.specs.declared.Label.{Label}
use Rattle.label.specs.declared.Test.{Test}
use Rattle.label.specs.declared.Test.TheVariants.{Always, Is}
use Rattle.paths.specs.Inner.{label_end}
use Rattle.cutting.proofs.MovedLaws.{equates-same, equates-less, equates-more}
use Rattle.matcher.specs.Search.{is_equality, all_of, all_known, Sorted, Finds, image_of, Images, packing, image_label, Met, truth, other}
use Rattle.matcher.specs.Search.{equal as matched}
use Rattle.matcher.proofs.AlongLaws.{all_more, all-not, all-at}
use Rattle.matcher.proofs.WayLaws.{untaken, unleft}

-- ===== Known places =====
abbrev KnownAt : List ℕ → ℕ → ℕ → ℕ → Bool
KnownAt tab m l k = leb (get_or tab (place_at l k) 0) m

-- the places before k are known
pub record Knowing (tab : List ℕ) (m l k : ℕ) : Type 0 where
  pub most : k ≤ most_places
  pub known : all_of (KnownAt tab m l) k ≡ true

pub knowing-start : (tab : List ℕ) (m l : ℕ) → Knowing tab m l 0
unfolding all_of
knowing-start tab m l = record { most = omega arith; known = refl }

module _ {tab : List ℕ} {m l k t : ℕ} (b : Knowing tab m l k) (h : k < most_places) (e : t ≡ place_at l k) where
  pub knowing-not : m < get_or tab t 0 → false ≡ all_known tab m l
  knowing-not q = sym (all-not (KnownAt tab m l) most_places k h (ap (λ (v : ℕ). leb (get_or tab v 0) m) (sym e) ∙ lt-leb (get_or tab t 0) m q))

  pub knowing-next : get_or tab t 0 ≤ m → Knowing tab m l (k + 1)
  knowing-next q = record { most = omega arith; known = all_more (KnownAt tab m l) k b.known (ap (λ (v : ℕ). leb (get_or tab v 0) m) (sym e) ∙ le-leb (get_or tab t 0) m q) }

pub knowing-end : {tab : List ℕ} {m l k : ℕ} → Knowing tab m l k → most_places ≤ k → true ≡ all_known tab m l
knowing-end {tab} {m} {l} {k} b h = let e : k ≡ most_places = omega (arith, b.most) in sym (subst (λ (n : ℕ). all_of (KnownAt tab m l) n ≡ true) e b.known)

pub known_at : (tab : List ℕ) (m l : ℕ) → all_known tab m l ≡ true → (k : ℕ) → k < most_places → get_or tab (place_at l k) 0 ≤ m
known_at tab m l e k h = leb-true (get_or tab (place_at l k) 0) m (all-at (KnownAt tab m l) most_places k e h)

-- ===== The label that a label becomes =====

-- what a label of n places is below
unfoldable pub packing_end : ℕ → ℕ
packing_end zero = predicate_count
packing_end (suc n) = packing_end n * term_base

packing-grows : (n m : ℕ) → n ≤ m → packing_end n ≤ packing_end m
unfolding packing_end
packing-grows n zero h = let e : n ≡ 0 = omega arith in subst (λ (i : ℕ). packing_end i ≤ packing_end 0) (sym e) (omega arith)
packing-grows n (suc m) h = go (cmp n (suc m)) (packing-grows n m)
  where
    go : Cmp n (suc m) → (n ≤ m → packing_end n ≤ packing_end m) → packing_end n ≤ packing_end m * term_base
    go (below q) rec = omega (arith, rec (omega arith))
    go (equal q) rec = subst (λ (i : ℕ). packing_end i ≤ packing_end m * term_base) (sym q) (omega arith)
    go (above q) rec = absurd (omega arith)

packing-most : packing_end most_places ≤ label_end
unfolding packing_end
packing-most = omega arith

pub image-small : {theta : List ℕ} {l t : ℕ} → Images theta l → (k : ℕ) → k < most_places → t ≡ place_at l k → get_or theta t 0 < first_minimum
image-small {theta} i k h e = subst (λ (v : ℕ). get_or theta v 0 < first_minimum) (sym e) (i.terms k h)

-- the places before k are packed
pub record Packing (theta : List ℕ) (l n k : ℕ) : Type 0 where
  pub most : k ≤ most_places
  pub is : n ≡ packing (predicate_of l) (image_of theta l) k
  pub below : n < packing_end k

module _ {theta : List ℕ} {l : ℕ} (i : Images theta l) where
  pub packing-start : {n : ℕ} → n ≡ predicate_of l → Packing theta l n 0
  unfolding packing packing_end
  packing-start e = record { most = omega arith; is = e; below = omega (arith, i.range.predicate) }

  module _ {n k t : ℕ} (b : Packing theta l n k) (h : k < most_places) (e : t ≡ place_at l k) where
    pub packing-index : t < length theta
    packing-index = omega (arith, i.range.places k h, i.room)

    term : get_or theta t 0 < first_minimum
    term = subst (λ (v : ℕ). get_or theta v 0 < first_minimum) (sym e) (i.terms k h)

    next-below : n * term_base + get_or theta t 0 < packing_end (suc k)
    unfolding packing_end
    next-below = omega (arith, b.below, term)

    pub packing-small : n * term_base + get_or theta t 0 < label_end
    packing-small = omega (arith, next-below, packing-grows (suc k) most_places (omega arith), packing-most)

    pub packing-next : Packing theta l (n * term_base + get_or theta t 0) (k + 1)
    unfolding packing
    packing-next = record {
      most = omega arith;
      is = ap₂ (λ (a v : ℕ). a * term_base + get_or theta v 0) b.is e ∙ ap (packing (predicate_of l) (image_of theta l)) (sym (add-one k));
      below = subst (λ (a : ℕ). n * term_base + get_or theta t 0 < packing_end a) (sym (add-one k)) next-below;
    }

  pub packing-end : {n k : ℕ} → Packing theta l n k → most_places ≤ k → (n ≡ image_label theta l) × (n < label_end)
  packing-end {n} {k} b h =
      let e : k ≡ most_places = omega (arith, b.most) in
      (subst (λ (a : ℕ). n ≡ packing (predicate_of l) (image_of theta l) a) e b.is, omega (arith, subst (λ (a : ℕ). n < packing_end a) e b.below, packing-most))

-- ===== Literals whose terms are known =====
asked : (theta : List ℕ) (x : ℕ) {t u : ℕ} {w : Test} → t ≡ place_at (x / 2) 0 → u ≡ place_at (x / 2) 1 → w ≡ equates (get_or theta t 0) (get_or theta u 0)
    → w ≡ equates (image_of theta (x / 2) 0) (image_of theta (x / 2) 1)
asked theta x e f z = z ∙ ap₂ (λ (i j : ℕ). equates (get_or theta i 0) (get_or theta j 0)) e f

module _ {into theta : List ℕ} {x : ℕ} {b : Bool} (q : b ≡ is_equality x) where
  pub met-other : {n : ℕ} {r : Bool} → not b ≡ true → (n ≡ image_label theta (x / 2)) × (n < label_end) → Finds into (n * 2 + x % 2) r → Met into theta x r
  met-other {n} {r} h e f = other (sym q ∙ untaken h) (subst (λ (y : ℕ). Finds into (y * 2 + x % 2) r) e.0 f)

  module _ {t u : ℕ} {w : Test} (h : not b ≡ false) (e : t ≡ place_at (x / 2) 0) (f : u ≡ place_at (x / 2) 1) (z : w ≡ equates (get_or theta t 0) (get_or theta u 0)) where
    pub met-truth : w ≡ Always → Met into theta x (eqb (x % 2) 1)
    met-truth v = truth (sym q ∙ unleft h) (sym (asked theta x e f z) ∙ v) refl

    pub met-equal : {l : Label} {r : Bool} → w ≡ Is l → Finds into (l.packed * 2 + x % 2) r → Met into theta x r
    met-equal {l} v g = matched l.packed (sym q ∙ unleft h) (sym (asked theta x e f z) ∙ v) g

-- the label of an equality is small
packed-small : (t u : ℕ) → t < first_minimum → u < first_minimum → packed (atom_from equality (t ∷ u ∷ [])) < label_end
unfolding packed
packed-small t u h k = omega arith

abbrev number : Test → ℕ
number Always = 0
number (Is y) = y.packed

pub equates-small : {t u : ℕ} {w : Test} {l : Label} → t < first_minimum → u < first_minimum → w ≡ equates t u → w ≡ Is l → l.packed < label_end
equates-small {t} {u} {w} {l} h k e f = go (cmp t u)
  where
    is : equates t u ≡ Is l
    is = sym e ∙ f

    go : Cmp t u → l.packed < label_end
    go (below q) = let z : packed (atom_from equality (t ∷ u ∷ [])) ≡ l.packed = sym (ap number (equates-less t u q)) ∙ ap number is in omega (arith, packed-small t u h k)
    go (equal q) = let z : 0 ≡ l.packed = sym (ap number (equates-same t u q)) ∙ ap number is in omega arith
    go (above q) = let z : packed (atom_from equality (u ∷ t ∷ [])) ≡ l.packed = sym (ap number (equates-more t u q)) ∙ ap number is in omega (arith, packed-small u t k h)

-- ===== Looking a literal up =====

-- literals before `low` are smaller than y, those from `high` on greater
pub record Between (into : List ℕ) (y low high : ℕ) : Type 0 where
  pub from : first_minimum ≤ low
  pub to : low ≤ high
  pub room : high ≤ length into
  pub before : (i : ℕ) → first_minimum ≤ i → i < low → get_or into i 0 < y
  pub behind : (i : ℕ) → high ≤ i → i < length into → y < get_or into i 0

sorted-at : (into : List ℕ) (i j : ℕ) → Sorted into → first_minimum ≤ i → i < j → j < length into → get_or into i 0 < get_or into j 0
sorted-at into i j s h k l =
    let e : first_minimum + (i - first_minimum) ≡ i = omega arith in
    let f : first_minimum + (j - first_minimum) ≡ j = omega arith in
    let w = s.order (i - first_minimum) (j - first_minimum) (omega arith) (omega arith) in
    subst (λ (a : ℕ). get_or into a 0 < get_or into j 0) e (subst (λ (b : ℕ). get_or into (first_minimum + (i - first_minimum)) 0 < get_or into b 0) f w)

pub find-start : {into : List ℕ} (y : ℕ) → Sorted into → Between into y first_minimum (length into)
find-start y s = record { from = omega arith; to = s.room; room = omega arith; before = λ i h k. absurd (omega arith); behind = λ i h k. absurd (omega arith) }

module _ {into : List ℕ} {y low high : ℕ} (b : Between into y low high) (h : low < high) {x : ℕ} (e : x ≡ get_or into (low + (high - low) / 2) 0) where
  pub find-hit : x ≡ y → Finds into y true
  find-hit q = record { yes = λ z. (low + (high - low) / 2 - first_minimum, omega (arith, b.from, b.room), found); no = λ z. clash refl z }
    where
      found : get_or into (first_minimum + (low + (high - low) / 2 - first_minimum)) 0 ≡ y
      found =
          let k : first_minimum + (low + (high - low) / 2 - first_minimum) ≡ low + (high - low) / 2 = omega (arith, b.from) in
          ap (λ (i : ℕ). get_or into i 0) k ∙ sym e ∙ q

  pub find-up : Sorted into → x < y → Between into y (low + (high - low) / 2 + 1) high
  find-up s q = record { from = omega (arith, b.from); to = omega arith; room = b.room; before = λ i k l. more i k l (cmp i (low + (high - low) / 2)); behind = b.behind }
    where
      more : (i : ℕ) → first_minimum ≤ i → i < low + (high - low) / 2 + 1 → Cmp i (low + (high - low) / 2) → get_or into i 0 < y
      more i k l (below c) = omega (arith, sorted-at into i (low + (high - low) / 2) s k c (omega (arith, b.room)))
      more i k l (equal c) = rw c (omega arith)
      more i k l (above c) = absurd (omega arith)

  pub find-down : Sorted into → (x ≡ y → ⊥) → y ≤ x → Between into y low (low + (high - low) / 2)
  find-down s n q = record { from = b.from; to = omega arith; room = omega (arith, b.room); before = b.before; behind = λ i k l. more i k l (cmp i (low + (high - low) / 2)) }
    where
      more : (i : ℕ) → low + (high - low) / 2 ≤ i → i < length into → Cmp i (low + (high - low) / 2) → y < get_or into i 0
      more i k l (below c) = absurd (omega arith)
      more i k l (equal c) = rw c (omega arith)
      more i k l (above c) = omega (arith, sorted-at into (low + (high - low) / 2) i s (omega (arith, b.from)) c l)

pub find_none : {into : List ℕ} {y low high : ℕ} → Between into y low high → high ≤ low → Finds into y false
find_none {into} {y} {low} b h = record { yes = λ z. clash z refl; no = λ z i k e. at i k e (cmp (first_minimum + i) low) }
  where
    at : (i : ℕ) → i < length into - first_minimum → get_or into (first_minimum + i) 0 ≡ y → Cmp (first_minimum + i) low → ⊥
    at i k e (below c) = omega (arith, b.before (first_minimum + i) (omega arith) c)
    at i k e (equal c) = omega (arith, b.behind (first_minimum + i) (omega arith) (omega arith))
    at i k e (above c) = omega (arith, b.behind (first_minimum + i) (omega arith) (omega arith))
