-- The table of the places where terms come first.
use mathlib.Core.Path.{◌≡◌, refl, sym, ap, subst, ◌∙◌}
use mathlib.Core.List.{List}
use Prim.Native.Nat.{ℕ, ◌+◌, ◌*◌, ◌/◌, ◌%◌, ◌≤◌, ◌<◌}
use native.Mathlib.Omega.{arith}
use native.Mathlib.Nat.{le_antisymm}
use lib.ListN.{length, get_or, set, length-set}
use lib.Seq.{get_or-set_same, get_or-set_other}
use Rattle.basics.specs.Tests.{Cmp, cmp, below, equal, above}
use Rattle.label.specs.Limits.{first_variable, first_minimum, most_places}
use Rattle.label.specs.Labels.{place_at}
use Rattle.paths.specs.Inner.{AllInRange}
use Rattle.matcher.specs.Search.{term_at, late, Unplaced, Placing}

-- place m of the literals
module _ {ord : List ℕ} {m : ℕ} (r : AllInRange first_minimum ord) (h : m < length ord * most_places) {t : ℕ} (e : t ≡ place_at (get_or ord (m / most_places) 0 / 2) (m % most_places)) where
  pub term-within : t < first_minimum
  term-within = omega (arith, (r.each (m / most_places) (omega arith)).places (m % most_places) (omega arith))

pub placing-start : {tab : List ℕ} (ord : List ℕ) → Unplaced tab → Placing ord tab tab 0
placing-start {tab} ord u = record {
  length-kept = refl;
  fixed = u.fixed;
  free = λ v h k. omega (arith, u.free v h k);
  early = λ v h k. low v h k (cmp v first_variable);
  seen = λ i h. absurd (omega arith);
  only = λ i v h. absurd (omega arith);
  kept = λ v h. refl;
}
  where
    low : (v : ℕ) → v < first_minimum → (get_or tab v 0 ≡ late → ⊥) → Cmp v first_variable → get_or tab v 0 ≤ 0
    low v h k (below q) = omega (arith, u.fixed v q)
    low v h k (equal q) = absurd (k (u.free v (omega arith) h))
    low v h k (above q) = absurd (k (u.free v (omega arith) h))

module _ {ord tab₀ tab : List ℕ} {m t : ℕ} (p : Placing ord tab₀ tab m) (small : m + 1 < late) (e : t ≡ term_at ord m) (h : t < first_minimum) where
  -- the term comes first here
  pub placing-new : first_minimum ≤ length tab → m + 1 < get_or tab t 0 → Placing ord tab₀ (set tab t (m + 1)) (m + 1)
  placing-new room l = record {
    length-kept = length-set tab t (m + 1) ∙ p.length-kept;
    fixed = λ v k. other v (λ z. omega (arith, p.fixed v k, ap (λ (i : ℕ). get_or tab i 0) z)) ∙ p.fixed v k;
    free = λ v a b. free v a b (cmp v t);
    early = λ v a b. early v a b (cmp v t);
    seen = λ i k. seen i k (cmp i m);
    only = λ i v k a q. only i v k a q (cmp i m) (cmp v t);
    kept = λ v k. other v (λ z. omega arith) ∙ p.kept v k;
  }
    where
      other : (v : ℕ) → (v ≡ t → ⊥) → get_or (set tab t (m + 1)) v 0 ≡ get_or tab v 0
      other v d = get_or-set_other tab t v (m + 1) 0 d

      here : get_or (set tab t (m + 1)) t 0 ≡ m + 1
      here = get_or-set_same tab t (m + 1) 0 (omega arith)

      at : (v : ℕ) → v ≡ t → get_or (set tab t (m + 1)) v 0 ≡ m + 1
      at v z = ap (λ (i : ℕ). get_or (set tab t (m + 1)) i 0) z ∙ here

      free : (v : ℕ) → first_variable ≤ v → v < first_minimum → Cmp v t → 0 < get_or (set tab t (m + 1)) v 0
      free v a b (below q) = omega (arith, other v (omega arith), p.free v a b)
      free v a b (equal q) = omega (arith, at v q)
      free v a b (above q) = omega (arith, other v (omega arith), p.free v a b)

      early : (v : ℕ) → v < first_minimum → (get_or (set tab t (m + 1)) v 0 ≡ late → ⊥) → Cmp v t → get_or (set tab t (m + 1)) v 0 ≤ m + 1
      early v a b (below q) = let o = other v (omega arith) in omega (arith, o, p.early v a (λ z. b (o ∙ z)))
      early v a b (equal q) = omega (arith, at v q)
      early v a b (above q) = let o = other v (omega arith) in omega (arith, o, p.early v a (λ z. b (o ∙ z)))

      seen : (i : ℕ) → i < m + 1 → Cmp i m → get_or (set tab t (m + 1)) (term_at ord i) 0 ≤ i + 1
      seen i k (below q) = let s = p.seen i q in omega (arith, other (term_at ord i) (λ z. omega (arith, s, ap (λ (j : ℕ). get_or tab j 0) z)), s)
      seen i k (equal q) = omega (arith, at (term_at ord i) (ap (term_at ord) q ∙ sym e))
      seen i k (above q) = absurd (omega arith)

      only : (i v : ℕ) → i < m + 1 → v < first_minimum → get_or (set tab t (m + 1)) v 0 ≡ i + 1 → Cmp i m → Cmp v t → v ≡ term_at ord i
      only i v k a q (below c) (below d) = p.only i v c a (sym (other v (omega arith)) ∙ q)
      only i v k a q (below c) (equal d) = absurd (omega (arith, at v d))
      only i v k a q (below c) (above d) = p.only i v c a (sym (other v (omega arith)) ∙ q)
      only i v k a q (equal c) (below d) = absurd (let o = other v (omega arith) in omega (arith, o, p.early v a (λ z. omega arith)))
      only i v k a q (equal c) (equal d) = d ∙ e ∙ ap (term_at ord) (sym c)
      only i v k a q (equal c) (above d) = absurd (let o = other v (omega arith) in omega (arith, o, p.early v a (λ z. omega arith)))
      only i v k a q (above c) d = absurd (omega arith)

  -- it came before
  pub placing-old : get_or tab t 0 ≤ m + 1 → Placing ord tab₀ tab (m + 1)
  placing-old l = record {
    length-kept = p.length-kept;
    fixed = p.fixed;
    free = p.free;
    early = λ v a b. omega (arith, p.early v a b);
    seen = λ i k. seen i k (cmp i m);
    only = λ i v k a q. only i v k a q (cmp i m);
    kept = p.kept;
  }
    where
      seen : (i : ℕ) → i < m + 1 → Cmp i m → get_or tab (term_at ord i) 0 ≤ i + 1
      seen i k (below q) = p.seen i q
      seen i k (equal q) = omega (arith, ap (λ (j : ℕ). get_or tab j 0) (ap (term_at ord) q ∙ sym e))
      seen i k (above q) = absurd (omega arith)

      only : (i v : ℕ) → i < m + 1 → v < first_minimum → get_or tab v 0 ≡ i + 1 → Cmp i m → v ≡ term_at ord i
      only i v k a q (below c) = p.only i v c a q
      only i v k a q (equal c) = absurd (omega (arith, p.early v a (λ z. omega arith)))
      only i v k a q (above c) = absurd (omega arith)

pub placing-end : {ord tab₀ tab : List ℕ} (n : ℕ) {m : ℕ} → Placing ord tab₀ tab m → n * most_places ≤ m → m ≤ n * most_places → Placing ord tab₀ tab (n * most_places)
placing-end {ord} {tab₀} {tab} n p h k = subst (Placing ord tab₀ tab) (le_antisymm k h) p
