-- Laws of open places and of the facts that agree with a label, in the words of the code.
use mathlib.Core.Path.{◌≡◌, refl, sym, ap, ap₂, ◌∙◌}
use mathlib.Core.Bool.{Bool, true, false, not, ◌&&◌, ◌||◌, cond}
use mathlib.Core.List.{List}
use Prim.Native.Nat.{ℕ, ◌+◌, ◌*◌, ◌≤◌, ◌<◌}
use native.Mathlib.Omega.{arith}
use lib.ListN.{length, get_or}
use lib.Dec.{eqb}
use borrow.Author.Tests.{eqb-true, eq-eqb, ne_eqb}
use borrow.Author.Count.{below_more}
use Rattle.basics.specs.Members.{clash}
use Rattle.label.specs.Limits.{equality, most_places}
use Rattle.label.specs.Labels.{predicate_of, place_at}
use Rattle.state.specs.Lent.{fact_words, fact_count, predicate_at, some_below}
use Rattle.state.proofs.LentLaws.{some-made, some-none}
use Rattle.next_facts.specs.Reach.{free, word_of, is_open, differs, fits, may_hold, pick_leaf, Placed}

-- `differs`
pub differs-free : (w o : ℕ) → w ≡ free → not (eqb w free) ≡ differs w o
unfolding differs
differs-free w o e = rw (eq-eqb w free e)

pub differs-other : (w o : ℕ) → (w ≡ free → ⊥) → not (eqb o w) ≡ differs w o
unfolding differs
differs-other w o n = rw (ne_eqb w free n)

-- the words that are read
module _ {env : List ℕ} {l k j : ℕ} (q : Placed env l k) (h : j < k) where
  pub placed-few : j < most_places
  placed-few = omega (arith, q.most)

  pub placed-read : {t : ℕ} → t ≡ place_at l j → t < length env
  placed-read e = omega (arith, q.words, q.below j placed-few)

-- `is_open`: no open place before j
pub record Opening (env : List ℕ) (l k j : ℕ) : Type 0 where
  pub placed : Placed env l k
  pub most : j ≤ k
  pub none : (m : ℕ) → m < j → eqb (word_of env l m) free ≡ false

pub opening-start : {env : List ℕ} {l k : ℕ} → Placed env l k → Opening env l k 0
opening-start p = record { placed = p; most = omega arith; none = λ m h. absurd (omega arith) }

module _ {env : List ℕ} {l k j t : ℕ} (o : Opening env l k j) (h : j < k) (e : t ≡ place_at l j) where
  pub opening-hit : get_or env t 0 ≡ free → true ≡ is_open env l k
  unfolding is_open
  opening-hit z = sym (some-made k (λ m. eqb (word_of env l m) free) j h (eq-eqb _ free (ap (λ (x : ℕ). get_or env x 0) (sym e) ∙ z)))

  pub opening_on : (get_or env t 0 ≡ free → ⊥) → Opening env l k (j + 1)
  opening_on n = record {
    placed = o.placed;
    most = omega arith;
    none = below_more (λ m. eqb (word_of env l m) free ≡ false) j o.none (ne_eqb _ free (λ z. n (ap (λ (x : ℕ). get_or env x 0) e ∙ z)));
  }

pub opening-end : {env : List ℕ} {l k j : ℕ} → Opening env l k j → k ≤ j → false ≡ is_open env l k
unfolding is_open
opening-end {env} {l} {k} o h = sym (some-none k (λ m. eqb (word_of env l m) free) (λ m d. o.none m (omega arith)))

-- `fits`: no place before j differs
abbrev differs_at : List ℕ → List ℕ → ℕ → ℕ → ℕ → Bool
differs_at facts env l i m = differs (word_of env l m) (get_or facts (i * fact_words + 1 + m) 0)

pub record Fitting (facts env : List ℕ) (l k i j : ℕ) : Type 0 where
  pub placed : Placed env l k
  pub row : i * fact_words + fact_words ≤ length facts
  pub predicate : get_or facts (i * fact_words) 0 ≡ predicate_of l
  pub most : j ≤ k
  pub none : (m : ℕ) → m < j → differs (word_of env l m) (get_or facts (i * fact_words + 1 + m) 0) ≡ false

module _ (facts env : List ℕ) (l k i : ℕ) {p : ℕ} (e : p ≡ predicate_of l) where
  pub fitting-not : (get_or facts (i * fact_words) 0 ≡ p → ⊥) → false ≡ fits facts env l k i
  unfolding fits predicate_at
  fitting-not n = rw (ne_eqb (get_or facts (i * fact_words) 0) (predicate_of l) (λ z. n (z ∙ sym e)))

  pub fitting-start : Placed env l k → i * fact_words + fact_words ≤ length facts → get_or facts (i * fact_words) 0 ≡ p → Fitting facts env l k i 0
  fitting-start q r z = record { placed = q; row = r; predicate = z ∙ e; most = omega arith; none = λ m h. absurd (omega arith) }

module _ {facts env : List ℕ} {l k i j : ℕ} (f : Fitting facts env l k i j) (h : j < k) where
  pub fitting-few : j < most_places
  fitting-few = placed-few f.placed h

  pub fitting-fact : i * fact_words + 1 + j < length facts
  fitting-fact = omega (arith, f.row, fitting-few)

  module _ {t : ℕ} (e : t ≡ place_at l j) where
    pub fitting-read : t < length env
    fitting-read = placed-read f.placed h e

    module _ {b : Bool} (q : b ≡ differs (get_or env t 0) (get_or facts (i * fact_words + 1 + j) 0)) where
      here : differs_at facts env l i j ≡ b
      here = ap (λ (x : ℕ). differs (get_or env x 0) (get_or facts (i * fact_words + 1 + j) 0)) (sym e) ∙ sym q

      pub fitting-hit : b ≡ true → false ≡ fits facts env l k i
      unfolding fits predicate_at
      fitting-hit z = rw (
        eq-eqb (get_or facts (i * fact_words) 0) (predicate_of l) f.predicate,
        some-made k (differs_at facts env l i) j h (here ∙ z),
      )

      pub fitting-on : b ≡ false → Fitting facts env l k i (j + 1)
      fitting-on z = record {
        placed = f.placed;
        row = f.row;
        predicate = f.predicate;
        most = omega arith;
        none = below_more (λ m. differs_at facts env l i m ≡ false) j f.none (here ∙ z);
      }

pub fitting-end : {facts env : List ℕ} {l k i j : ℕ} → Fitting facts env l k i j → k ≤ j → true ≡ fits facts env l k i
unfolding fits predicate_at
fitting-end {facts} {env} {l} {k} {i} {j} f h = rw (
  eq-eqb (get_or facts (i * fact_words) 0) (predicate_of l) f.predicate,
  some-none k (differs_at facts env l i) (λ m d. f.none m (omega arith)),
)

-- `some_fits`: no row before i fits
pub record Seeking (facts env : List ℕ) (l k i : ℕ) : Type 0 where
  pub most : i ≤ fact_count facts
  pub none : (m : ℕ) → m < i → fits facts env l k m ≡ false

pub seeking-start : (facts env : List ℕ) (l k : ℕ) → Seeking facts env l k 0
seeking-start facts env l k = record { most = omega arith; none = λ m h. absurd (omega arith) }

module _ {facts env : List ℕ} {l k i : ℕ} (s : Seeking facts env l k i) (h : i < fact_count facts) where
  module _ {b : Bool} (q : b ≡ fits facts env l k i) where
    pub seeking-hit : b ≡ true → true ≡ some_below (fact_count facts) (fits facts env l k)
    seeking-hit z = sym (some-made (fact_count facts) (fits facts env l k) i h (sym q ∙ z))

    pub seeking-on : b ≡ false → Seeking facts env l k (i + 1)
    seeking-on z = record { most = omega arith; none = below_more (λ m. fits facts env l k m ≡ false) i s.none (sym q ∙ z) }

pub seeking-end : {facts env : List ℕ} {l k i : ℕ} → Seeking facts env l k i → fact_count facts ≤ i → false ≡ some_below (fact_count facts) (fits facts env l k)
seeking-end {facts} {env} {l} {k} s h = sym (some-none (fact_count facts) (fits facts env l k) (λ m d. s.none m (omega arith)))

-- `may_hold`
module _ (facts env : List ℕ) (l k : ℕ) {p : ℕ} (e : p ≡ predicate_of l) where
  pub hold-fact : {b : Bool} → (p ≡ 0 → ⊥) → b ≡ some_below (fact_count facts) (fits facts env l k) → b ≡ may_hold facts env l k
  unfolding may_hold
  hold-fact n q = rw (ne_eqb (predicate_of l) equality (λ z. n (e ∙ z))) q

  module _ {o : Bool} (z : p ≡ 0) (q : o ≡ is_open env l k) where
    pub hold-open : o ≡ true → true ≡ may_hold facts env l k
    unfolding may_hold
    hold-open r = rw (eq-eqb (predicate_of l) equality (sym e ∙ z), sym q ∙ r)

    pub hold-equal : o ≡ false → {t u : ℕ} → t ≡ place_at l 0 → u ≡ place_at l 1 → eqb (get_or env t 0) (get_or env u 0) ≡ may_hold facts env l k
    unfolding may_hold
    hold-equal r {t} {u} x y = rw (eq-eqb (predicate_of l) equality (sym e ∙ z), sym q ∙ r) (ap₂ (λ (a b : ℕ). eqb (get_or env a 0) (get_or env b 0)) x y)

pub two-read : {env : List ℕ} {l k j t : ℕ} → Placed env l k → j < most_places → t ≡ place_at l j → t < length env
two-read {env} {l} {k} {j} q h e = omega (arith, q.words, q.below j h)

-- `pick`
module _ (m o : Bool) (x y : ℕ) where
  pub pick-false : not m ≡ true → y ≡ pick_leaf m (o || not m) x y
  unfolding pick_leaf
  pick-false e = go m o e
    where
      go : (m o : Bool) → not m ≡ true → y ≡ cond (m && not (eqb x 0)) x (cond (o || not m) y 0)
      go true o z = clash z refl
      go false true z = refl
      go false false z = refl

  module _ (e : not m ≡ false) where
    pub pick_first : (x ≡ 0 → ⊥) → x ≡ pick_leaf m (o || not m) x y
    unfolding pick_leaf
    pick_first n = rw (ne_eqb x 0 n) (go m e)
      where
        go : (m : Bool) → not m ≡ false → x ≡ cond (m && true) x (cond (o || not m) y 0)
        go true z = refl
        go false z = clash refl z

    pub pick_second : x ≡ 0 → o ≡ true → y ≡ pick_leaf m (o || not m) x y
    unfolding pick_leaf
    pick_second z r = rw (eq-eqb x 0 z, r) (go m e)
      where
        go : (m : Bool) → not m ≡ false → y ≡ cond (m && false) x y
        go true w = refl
        go false w = refl

    pub pick-none : x ≡ 0 → o ≡ false → 0 ≡ pick_leaf m (o || not m) x y
    unfolding pick_leaf
    pick-none z r = rw (eq-eqb x 0 z, r) (go m e)
      where
        go : (m : Bool) → not m ≡ false → 0 ≡ cond (m && false) x (cond (not m) y 0)
        go true w = refl
        go false z = clash refl z

-- one leaf on both sides
pub pick_same : (m o : Bool) (x : ℕ) → pick_leaf m (o || not m) x x ≡ x
unfolding pick_leaf
pick_same true o x = go (eqb x 0) refl o
  where
    go : (b : Bool) → eqb x 0 ≡ b → (o : Bool) → cond (not b) x (cond (o || false) x 0) ≡ x
    go true e true = refl
    go true e false = sym (eqb-true x 0 e)
    go false e o = refl
pick_same false true x = refl
pick_same false false x = refl
