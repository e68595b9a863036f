-- The ways of a literal, as the code numbers them, and what their places are.
use mathlib.Core.Path.{◌≡◌, refl, sym, ap, ap₂, ◌∙◌}
use mathlib.Core.Bool.{Bool, true, false, not, ◌&&◌, cond}
use mathlib.Core.List.{List}
use Prim.Native.Nat.{ℕ, ◌+◌, ◌-◌, ◌*◌, ◌/◌, ◌%◌, ◌≤◌, ◌<◌}
use native.Mathlib.Omega.{arith}
use lib.ListN.{length, get_or}
use lib.Dec.{eqb, ltb}
use borrow.Author.Tests.{lt-ltb, le-ltb, eq-eqb, ne_eqb}
use Rattle.basics.specs.Tests.{Cmp, cmp, below, equal, above}
use Rattle.basics.specs.Members.{clash}
use Rattle.label.specs.Limits.{first_minimum, most_places, equality, equality_arity}
use Rattle.label.specs.Labels.{predicate_of, place_at}
use Rattle.matcher.specs.Search.{is_equality, turn, way_place, alike, into_count, into_at, plain_way, equal_way, way_at, way_count}
use Rattle.matcher.specs.declared.Way.{Way}
use Rattle.matcher.specs.declared.Way.TheVariants.{Straight, Turned, Twice, Nothing}

pub untaken : {b : Bool} → not b ≡ true → b ≡ false
untaken {b} e = go b e
  where
    go : (b : Bool) → not b ≡ true → b ≡ false
    go true e = clash e refl
    go false e = refl

pub unleft : {b : Bool} → not b ≡ false → b ≡ true
unleft {b} e = go b e
  where
    go : (b : Bool) → not b ≡ false → b ≡ true
    go true e = refl
    go false e = clash refl e

-- ===== Ways =====
pub equality-is : (x : ℕ) {p : ℕ} → p ≡ predicate_of (x / 2) → eqb p equality ≡ is_equality x
unfolding is_equality
equality-is x e = ap (λ (q : ℕ). eqb q equality) e

module _ (x y : ℕ) {p q : ℕ} (e : p ≡ predicate_of (x / 2)) (f : q ≡ predicate_of (y / 2)) where
  pub alike-not : (p ≡ q → ⊥) → false ≡ alike x y
  unfolding alike
  alike-not h = rw (ne_eqb (predicate_of (x / 2)) (predicate_of (y / 2)) (λ z. h (e ∙ z ∙ sym f)))

  pub alike-sign : p ≡ q → eqb (x % 2) (y % 2) ≡ alike x y
  unfolding alike
  alike-sign h = rw (eq-eqb (predicate_of (x / 2)) (predicate_of (y / 2)) (sym e ∙ h ∙ f))

pub plain-nothing : (into : List ℕ) (x j : ℕ) {y : ℕ} {b : Bool} → y ≡ get_or into (first_minimum + j) 0 → b ≡ alike x y → not b ≡ true → Nothing ≡ plain_way into x j
unfolding plain_way
plain-nothing into x j e q f =
    let z : alike x (get_or into (first_minimum + j) 0) ≡ false = ap (alike x) (sym e) ∙ sym q ∙ untaken f in rw z

pub plain-terms : (into : List ℕ) (x j : ℕ) {y : ℕ} {b : Bool} → y ≡ get_or into (first_minimum + j) 0 → b ≡ alike x y → not b ≡ false
    → Straight (y / 2) ≡ plain_way into x j
unfolding plain_way
plain-terms into x j e q f =
    let z : alike x (get_or into (first_minimum + j) 0) ≡ true = ap (alike x) (sym e) ∙ sym q ∙ unleft f in
    ap (λ (i : ℕ). Straight (i / 2)) e ∙ sym (ap (λ (t : Bool). cond t (Straight (get_or into (first_minimum + j) 0 / 2)) Nothing) z)

module _ (into tab : List ℕ) (x j : ℕ) where
  equal-low : j < into_count into * 2 → equal_way into tab x j ≡ cond (alike x (into_at into (j / 2)))
      (cond (eqb (j % 2) 0) (Straight (into_at into (j / 2) / 2)) (Turned (into_at into (j / 2) / 2))) Nothing
  unfolding equal_way
  equal-low h = rw (lt-ltb j (into_count into * 2) h)

  equal-high : into_count into * 2 ≤ j → equal_way into tab x j
      ≡ cond (eqb (x % 2) 1 && ltb 0 (get_or into (j - into_count into * 2) 0 + get_or tab (first_minimum + (j - into_count into * 2)) 0))
      (Twice (j - into_count into * 2)) Nothing
  unfolding equal_way
  equal-high h = rw (le-ltb j (into_count into * 2) h)

  module _ (h : j < (length into - first_minimum) * 2) {y : ℕ} {b : Bool} (e : y ≡ get_or into (first_minimum + j / 2) 0) (q : b ≡ alike x y) where
    pub equal-nothing : not b ≡ true → Nothing ≡ equal_way into tab x j
    equal-nothing f = sym (equal-low h ∙ ap (λ (t : Bool). cond t (cond (eqb (j % 2) 0) (Straight (into_at into (j / 2) / 2)) (Turned (into_at into (j / 2) / 2))) Nothing)
        (ap (alike x) (sym e) ∙ sym q ∙ untaken f))

    pub equal-straight : not b ≡ false → j % 2 ≡ 0 → Straight (y / 2) ≡ equal_way into tab x j
    equal-straight f z = sym (equal-low h ∙ ap₂ (λ (t u : Bool). cond t (cond u (Straight (into_at into (j / 2) / 2)) (Turned (into_at into (j / 2) / 2))) Nothing)
        (ap (alike x) (sym e) ∙ sym q ∙ unleft f) (eq-eqb (j % 2) 0 z) ∙ ap (λ (i : ℕ). Straight (i / 2)) (sym e))

    pub equal-turned : not b ≡ false → (j % 2 ≡ 0 → ⊥) → Turned (y / 2) ≡ equal_way into tab x j
    equal-turned f z = sym (equal-low h ∙ ap₂ (λ (t u : Bool). cond t (cond u (Straight (into_at into (j / 2) / 2)) (Turned (into_at into (j / 2) / 2))) Nothing)
        (ap (alike x) (sym e) ∙ sym q ∙ unleft f) (ne_eqb (j % 2) 0 z) ∙ ap (λ (i : ℕ). Turned (i / 2)) (sym e))

  module _ (h : (length into - first_minimum) * 2 ≤ j) where
    pub equal-false : (x % 2 ≡ 1 → ⊥) → Nothing ≡ equal_way into tab x j
    equal-false z = sym (equal-high h ∙ ap (λ (t : Bool). cond (t && ltb 0 (get_or into (j - into_count into * 2) 0 + get_or tab (first_minimum + (j - into_count into * 2)) 0))
        (Twice (j - into_count into * 2)) Nothing) (ne_eqb (x % 2) 1 z))

    equal-true : x % 2 ≡ 1 → 0 < get_or into (j - into_count into * 2) 0 + get_or tab (first_minimum + (j - into_count into * 2)) 0
        → Twice (j - into_count into * 2) ≡ equal_way into tab x j
    equal-true z k = sym (equal-high h ∙ ap₂ (λ (t u : Bool). cond (t && u) (Twice (j - into_count into * 2)) Nothing) (eq-eqb (x % 2) 1 z) (lt-ltb 0 _ k))

    pub equal-into : x % 2 ≡ 1 → {y : ℕ} → y ≡ get_or into (j - (length into - first_minimum) * 2) 0 → (y ≡ 0 → ⊥)
        → Twice (j - (length into - first_minimum) * 2) ≡ equal_way into tab x j
    equal-into z e k = equal-true z (omega arith)

    pub equal-tab : x % 2 ≡ 1 → {y : ℕ} → y ≡ get_or tab (first_minimum + (j - (length into - first_minimum) * 2)) 0 → (y ≡ 0 → ⊥)
        → Twice (j - (length into - first_minimum) * 2) ≡ equal_way into tab x j
    equal-tab z e k = equal-true z (omega arith)

    pub equal-none : {y w : ℕ} → y ≡ get_or into (j - (length into - first_minimum) * 2) 0 → y ≡ 0 → w ≡ get_or tab (first_minimum + (j - (length into - first_minimum) * 2)) 0 → w ≡ 0
        → Nothing ≡ equal_way into tab x j
    equal-none e k f i =
        let z : get_or into (j - into_count into * 2) 0 + get_or tab (first_minimum + (j - into_count into * 2)) 0 ≤ 0 = omega arith in
        sym (equal-high h ∙ ap (λ (u : Bool). cond (eqb (x % 2) 1 && u) (Twice (j - into_count into * 2)) Nothing) (le-ltb 0 _ z) ∙ last (eqb (x % 2) 1))
      where
        last : (t : Bool) → cond (t && false) (Twice (j - into_count into * 2)) Nothing ≡ Nothing
        last true = refl
        last false = refl

module _ (into tab : List ℕ) (x j : ℕ) {b : Bool} (q : b ≡ is_equality x) where
  pub way_equal : {r : Way} → b ≡ true → r ≡ equal_way into tab x j → r ≡ way_at into tab x j
  unfolding way_at
  way_equal h e = rw (sym q ∙ h) e

  pub way-plain : {r : Way} → b ≡ false → r ≡ plain_way into x j → r ≡ way_at into tab x j
  unfolding way_at
  way-plain h e = rw (sym q ∙ h) e

module _ (into : List ℕ) (x : ℕ) {b : Bool} (q : b ≡ is_equality x) where
  pub count-equal : b ≡ true → (length into - first_minimum) * 2 + first_minimum ≡ way_count into x
  unfolding way_count
  count-equal h = rw (sym q ∙ h)

  pub count-plain : b ≡ false → length into - first_minimum ≡ way_count into x
  unfolding way_count
  count-plain h = rw (sym q ∙ h)

  pub count-below : {j : ℕ} → b ≡ true → j < way_count into x → j < (length into - first_minimum) * 2 + first_minimum
  count-below h k = omega (arith, count-equal h)

  pub count_room : {j : ℕ} → b ≡ false → j < way_count into x → first_minimum + j < length into
  count_room h k = omega (arith, count-plain h)

-- ===== Places of ways =====
pub turn-first : (k : ℕ) → k ≡ 0 → 1 ≡ turn k
unfolding turn
turn-first k e = rw (eq-eqb k 0 e)

pub turn-second : (k : ℕ) → (k ≡ 0 → ⊥) → k ≡ 1 → 0 ≡ turn k
unfolding turn
turn-second k n e = rw (ne_eqb k 0 n, eq-eqb k 1 e)

pub turn-other : (k : ℕ) → (k ≡ 0 → ⊥) → (k ≡ 1 → ⊥) → k ≡ turn k
unfolding turn
turn-other k n m = rw (ne_eqb k 0 n, ne_eqb k 1 m)

pub turn_below : (k : ℕ) → k < most_places → turn k < most_places
turn_below k h = go (cmp k 0) (cmp k 1)
  where
    go : Cmp k 0 → Cmp k 1 → turn k < most_places
    go (equal p) q = omega (arith, turn-first k p)
    go (above p) (equal q) = omega (arith, turn-second k (omega arith) q)
    go (above p) (above q) = omega (arith, turn-other k (omega arith) (omega arith))
    go (above p) (below q) = absurd (omega arith)
    go (below p) q = absurd (omega arith)

module _ {w : Way} (k : ℕ) where
  pub place-straight : {c r : ℕ} → w ≡ Straight c → r ≡ place_at c k → r ≡ way_place w k
  unfolding way_place
  place-straight e q = q ∙ sym (ap (λ (v : Way). way_place v k) e)

  pub place-turned : {c i r : ℕ} → w ≡ Turned c → i ≡ turn k → r ≡ place_at c i → r ≡ way_place w k
  unfolding way_place
  place-turned {c} e f q = q ∙ ap (place_at c) f ∙ sym (ap (λ (v : Way). way_place v k) e)

  pub place_twice : {t r : ℕ} → w ≡ Twice t → r ≡ cond (ltb k equality_arity) t 0 → r ≡ way_place w k
  unfolding way_place
  place_twice e q = q ∙ sym (ap (λ (v : Way). way_place v k) e)

  pub place-nothing : w ≡ Nothing → 0 ≡ way_place w k
  unfolding way_place
  place-nothing e = sym (ap (λ (v : Way). way_place v k) e)

pub twice-used : (t k : ℕ) → k < equality_arity → t ≡ cond (ltb k equality_arity) t 0
twice-used t k h = rw (lt-ltb k equality_arity h)

pub twice-unused : (t k : ℕ) → equality_arity ≤ k → 0 ≡ cond (ltb k equality_arity) t 0
twice-unused t k h = rw (le-ltb k equality_arity h)
