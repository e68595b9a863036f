-- Laws of the facts under one valuation, and under all.
use mathlib.Core.Path.{◌≡◌, refl, sym, ap, subst, ◌∙◌}
use mathlib.Core.Logic.{◌≢◌}
use mathlib.Core.Bool.{true}
use mathlib.Core.List.{List, ◌∷◌}
use Prim.Native.Nat.{ℕ, zero, suc, ◌+◌, ◌-◌, ◌*◌, ◌/◌, ◌%◌, ◌^◌, ◌≤◌, ◌<◌}
use native.Mathlib.Omega.{arith}
use native.Mathlib.Nat.{pow-succ', mod-lt, div-lt_iff_lt-mul, mul-le-mul_right}
use lib.ListN.{length, get_or, replicate, length-replicate}
use lib.Dec.{eqb}
use borrow.Author.Tests.{ne_eqb, eqb-false}
use Rattle.basics.specs.Tests.{Flag, is_true, is_false, flag, Cmp, cmp, below, equal, above}
use Rattle.label.specs.Limits.{leaf_mark, term_end, term_base}
use Rattle.label.specs.Labels.{is_label}
use Rattle.label.specs.Inner.{map_of}
use Rattle.label.specs.Renamings.{rank}
use Rattle.label.specs.Callers.{TermMap}
use Rattle.diagram.specs.Words.{label_at}
use Rattle.rename.specs.Maps.{used_variables}
use Rattle.reduction.specs.Combinations.{object_of}
use Rattle.reduce.specs.Searching.{fact_end}
use Rattle.reduce.specs.Facts.{fact_of}
use Rattle.reduce.specs.FactLaws.{renamed-agree, fact-below}
use Rattle.reduce.specs.Tables.{digits, Placed, Mapped, fact_word, Filled, Blocked, Grounded, Tabling, Tabled}

-- ===== Digits =====
pub digits-beyond : (n c i j : ℕ) → c ≤ j → get_or (digits n c i) j 0 ≡ 0
unfolding digits
digits-beyond n zero i j h = refl
digits-beyond n (suc c) i zero h = absurd (omega arith)
digits-beyond n (suc c) i (suc j) h = digits-beyond n c (i % n ^ c) j (omega arith)

-- a product is above 0 only if its factors are
factor-some : (x a b : ℕ) → x < a * b → 0 < b
factor-some x a zero l = absurd (let z : a * zero ≡ 0 = omega arith in omega arith)
factor-some x a (suc b) l = omega arith

pub digits-small : (n w : ℕ) → n ≤ w → 0 < w → (c i j : ℕ) → i < n ^ c → get_or (digits n c i) j 0 < w
unfolding digits
digits-small n w h z zero i j l = z
digits-small n w h z (suc c) i j l = go j (λ x y k. digits-small n w h z c x y k)
  where
    m : i < n * n ^ c
    m = subst (λ (x : ℕ). i < x) (pow-succ' n c) l

    p : 0 < n ^ c
    p = factor-some i n (n ^ c) m

    go : (j : ℕ) → ((x y : ℕ) → x < n ^ c → get_or (digits n c x) y 0 < w) → get_or ((i / n ^ c) ∷ digits n c (i % n ^ c)) j 0 < w
    go zero ih = let q : i / n ^ c < n = (div-lt_iff_lt-mul p).1 m in omega arith
    go (suc j) ih = ih (i % n ^ c) j (mod-lt i p)

pub zeros : (k j : ℕ) → get_or {A = ℕ} (replicate k 0) j 0 ≡ 0
zeros zero j = refl
zeros (suc k) zero = refl
zeros (suc k) (suc j) = zeros k j

word-zero : (ar ws map : List ℕ) (r : ℕ) → eqb (label_at ws r) leaf_mark ≡ true → fact_word ar ws map r ≡ 0
unfolding fact_word
word-zero ar ws map r e = rw e

-- ===== `fact_block` =====
module _ {ar ws marks facts : List ℕ} {n v all i base : ℕ} (g : Blocked ar ws marks facts n v all i base) where
  abbrev U : List ℕ
  U = used_variables marks

  abbrev os : List ℕ
  os = digits v v i

  small : (w t : ℕ) → term_end ≤ w → object_of U os t < w
  unfolding object_of
  small w t h = digits-small v w (omega (arith, g.few)) (omega arith) v i (rank U t) (subst (λ (x : ℕ). i < x) g.power g.one)

  module _ {objects map : List ℕ} (k : ℕ) (p : Placed v i (replicate k 0) objects) (m : Mapped marks objects map term_end) where
    agrees : (t : ℕ) → t < term_end → get_or map t 0 ≡ object_of U os t
    unfolding object_of
    agrees t h = m.each t h ∙ go (cmp (rank U t) v)
      where
        beyond : v ≤ rank U t → get_or objects (rank U t) 0 ≡ get_or os (rank U t) 0
        beyond q = p.kept (rank U t) q ∙ zeros k (rank U t) ∙ sym (digits-beyond v v i (rank U t) q)

        go : Cmp (rank U t) v → get_or objects (rank U t) 0 ≡ get_or os (rank U t) 0
        go (below q) = p.each (rank U t) q
        go (equal q) = beyond (omega arith)
        go (above q) = beyond (omega arith)

    pub block-terms : length map ≡ length {A = ℕ} (replicate k 0) → term_end ≤ k → TermMap map
    block-terms e h = record { whole = omega (arith, e, length-replicate {A = ℕ} k 0); below = λ t l. subst (λ (x : ℕ). x < term_end) (sym (agrees t l)) (small term_end t (omega arith)) }

    module _ {facts' : List ℕ} (f : Filled ar ws map base n facts facts') where
      word-is : (r : ℕ) → r < n → label_at ws r ≢ leaf_mark → fact_word ar ws map r ≡ fact_of ar U os (label_at ws r)
      unfolding fact_word fact_of
      word-is r h e = rw (ne_eqb (label_at ws r) leaf_mark e) (renamed-agree ar (map_of map) (object_of U os) (label_at ws r) (g.labelled.labels r h e) agrees)

      fact-end : (l : ℕ) → is_label ar l ≡ true → fact_of ar U os l < fact_end
      unfolding fact_of
      fact-end l e = fact-below ar (object_of U os) l e (λ t. small term_base t (omega arith))

      word_below : (r : ℕ) → r < n → fact_word ar ws map r < fact_end
      word_below r h = go (flag (eqb (label_at ws r) leaf_mark))
        where
          leaf-word : eqb (label_at ws r) leaf_mark ≡ true → fact_word ar ws map r ≡ 0
          leaf-word e = word-zero ar ws map r e

          go : Flag (eqb (label_at ws r) leaf_mark) → fact_word ar ws map r < fact_end
          go (is_true e) = subst (λ (x : ℕ). x < fact_end) (sym (leaf-word e)) (omega arith)
          go (is_false e) =
              let z = eqb-false (label_at ws r) leaf_mark e in
              subst (λ (x : ℕ). x < fact_end) (sym (word-is r h z)) (fact-end (label_at ws r) (g.labelled.labels r h z))

      pub block-done : Grounded ar ws marks os base n facts facts'
      block-done = record {
        each = λ r h e. f.each r h ∙ word-is r h e;
        front = f.front;
        codes = λ c j. codes c j (cmp j base) (cmp j (base + n));
      }
        where
          inside : (j : ℕ) → base ≤ j → j < base + n → get_or facts' j 0 < fact_end
          inside j a b =
              let e : base + (j - base) ≡ j = omega arith in
              subst (λ (x : ℕ). x < fact_end) (sym (sym (ap (λ (y : ℕ). get_or facts' y 0) e) ∙ f.each (j - base) (omega arith))) (word_below (j - base) (omega arith))

          codes : ((j : ℕ) → get_or facts j 0 < fact_end) → (j : ℕ) → Cmp j base → Cmp j (base + n) → get_or facts' j 0 < fact_end
          codes c j (below q) y = subst (λ (x : ℕ). x < fact_end) (sym (f.front j q)) (c j)
          codes c j (equal q) (below y) = inside j (omega arith) y
          codes c j (above q) (below y) = inside j (omega arith) y
          codes c j (equal q) (equal y) = subst (λ (x : ℕ). x < fact_end) (sym (f.behind j (omega arith))) (c j)
          codes c j (equal q) (above y) = subst (λ (x : ℕ). x < fact_end) (sym (f.behind j (omega arith))) (c j)
          codes c j (above q) (equal y) = subst (λ (x : ℕ). x < fact_end) (sym (f.behind j (omega arith))) (c j)
          codes c j (above q) (above y) = subst (λ (x : ℕ). x < fact_end) (sym (f.behind j (omega arith))) (c j)

-- ===== `fill_facts` =====
module _ {ar ws marks facts₀ : List ℕ} {n v all : ℕ} (g : Tabling ar ws marks facts₀ n v all) where
  pub table-start : Tabled ar ws marks n v 0 facts₀
  table-start = record { each = λ k r h. absurd (omega arith); codes = g.clean }

  pub table-base : (i base : ℕ) → base ≡ i * n → base + n ≡ (i + 1) * n
  table-base i base b = let c : (i + 1) * n ≡ i * n + n = omega arith in omega arith

  module _ (facts : List ℕ) {i base : ℕ} (l : length facts ≡ length facts₀) (h : i < all) (b : base ≡ i * n) where
    pub table-room : base + n ≤ length facts
    table-room =
        let a = mul-le-mul_right n (let z : suc i ≤ all = omega arith in z) in
        let c : suc i * n ≡ n + i * n = omega arith in
        omega (arith, a, c, g.room)

    pub table-blocked : Blocked ar ws marks facts n v all i base
    table-blocked = record { labelled = g.labelled; marked = g.marked; few = g.few; power = g.power; one = h; room = table-room }

    pub table_more : {facts' : List ℕ} → Tabled ar ws marks n v i facts → Grounded ar ws marks (digits v v i) base n facts facts' → Tabled ar ws marks n v (i + 1) facts'
    table_more {facts'} t w = record { each = λ k r p q e. each k r p q e (cmp k i); codes = w.codes t.codes }
      where
        each : (k r : ℕ) → k < i + 1 → r < n → label_at ws r ≢ leaf_mark → Cmp k i → get_or facts' (k * n + r) 0 ≡ fact_of ar (used_variables marks) (digits v v k) (label_at ws r)
        each k r u q e (below p) =
            let a = mul-le-mul_right n (let z : suc k ≤ i = omega arith in z) in
            let c : suc k * n ≡ n + k * n = omega arith in
            w.front (k * n + r) (omega (arith, a, c)) ∙ t.each k r p q e
        each k r u q e (equal p) =
            ap (λ (y : ℕ). get_or facts' (y + r) 0) (ap (λ (y : ℕ). y * n) p ∙ sym b) ∙ w.each r q e
            ∙ ap (λ (y : ℕ). fact_of ar (used_variables marks) (digits v v y) (label_at ws r)) (sym p)
        each k r u q e (above p) = absurd (omega arith)

  pub table-end : {facts : List ℕ} {i : ℕ} → i ≤ all → all ≤ i → Tabled ar ws marks n v i facts → Tabled ar ws marks n v all facts
  table-end {facts} {i} h k t = let e : i ≡ all = omega arith in subst (λ (y : ℕ). Tabled ar ws marks n v y facts) e t
