-- Laws of what a label asks of lent facts and their index, in the words of the code.
use mathlib.Core.Path.{◌≡◌, refl, sym, ap, subst, ◌∙◌}
use mathlib.Core.Bool.{Bool, true, false}
use mathlib.Core.List.{List}
use Prim.Native.Nat.{ℕ, ◌+◌, ◌-◌, ◌*◌, ◌/◌, ◌≤◌, ◌<◌}
use native.Mathlib.Omega.{arith}
use borrow.Author.Tests.{eqb-true, eq-eqb, ne_eqb}
use lib.ListN.{length, get_or, get_or-eq_default}
use lib.Dec.{eqb}
use Rattle.basics.specs.Tests.{Cmp, below, equal, above, cmp, Flag, is_true, is_false, flag, and_left, and_right}
use Rattle.basics.specs.Members.{clash}
use Rattle.label.specs.Limits.{most_places}
use Rattle.label.specs.Labels.{predicate_of, place_at}
use Rattle.diagram.specs.WordLaws.{below-every}
use Rattle.state.specs.Lent.{fact_count, fact_words, predicate_at, some_below}
use Rattle.state.proofs.LentLaws.{some-made, some-none}
use Rattle.fact_index.specs.Inner.{place_count, object_at, hash_of, bucket_for, bucket_at, indexed_count, Asks, Sought}
use Rattle.fact_index.specs.Index.{buckets}
use Rattle.fact_index.specs.IndexLaws.{hash-same}
use Rattle.valuing.specs.Asking.{given_at, bucket_of, says, Placed, Asked}
use Rattle.valuing.proofs.PassedLaws.{Passed, passed_start, passed_on, passed-no, passed-all}

-- a word past the end
pub read_past : (ws : List ℕ) (i : ℕ) → length ws ≤ i → 0 ≡ get_or ws i 0
read_past ws i h = sym (get_or-eq_default ws 0 h)

-- what a row says, test by test
pub record Saying (facts env : List ℕ) (l i j : ℕ) : Type 0 where
  pub predicate : get_or facts (i * fact_words) 0 ≡ predicate_of l
  pub passed : Passed (λ m. eqb (object_at facts i m) (given_at env l m)) j

module _ (facts env : List ℕ) (l i : ℕ) {p : ℕ} (e : p ≡ predicate_of l) where
  pub saying-not : (k : ℕ) → (get_or facts (i * fact_words) 0 ≡ p → ⊥) → false ≡ says facts env l k i
  unfolding says predicate_at
  saying-not k h = rw (ne_eqb (get_or facts (i * fact_words) 0) (predicate_of l) (λ z. h (z ∙ sym e)))

  pub saying-start : get_or facts (i * fact_words) 0 ≡ p → Saying facts env l i 0
  saying-start h = record { predicate = h ∙ e; passed = passed_start }

module _ {facts env : List ℕ} {l i j : ℕ} (s : Saying facts env l i j) where
  pub saying-on : {t : ℕ} → t ≡ place_at l j → object_at facts i j ≡ get_or env t 0 → Saying facts env l i (j + 1)
  saying-on e h = record { predicate = s.predicate; passed = passed_on s.passed refl (eq-eqb (object_at facts i j) (given_at env l j) (h ∙ ap (λ (x : ℕ). get_or env x 0) e)) }

  pub saying-no : (k : ℕ) {t : ℕ} → j < k → t ≡ place_at l j → (object_at facts i j ≡ get_or env t 0 → ⊥) → false ≡ says facts env l k i
  unfolding says predicate_at
  saying-no k h e n =
      rw (eq-eqb (get_or facts (i * fact_words) 0) (predicate_of l) s.predicate)
      (passed-no k (λ m. eqb (object_at facts i m) (given_at env l m)) j h refl
      (ne_eqb (object_at facts i j) (given_at env l j) (λ z. n (z ∙ ap (λ (x : ℕ). get_or env x 0) (sym e)))))

  pub saying-all : (k : ℕ) → k ≤ j → true ≡ says facts env l k i
  unfolding says predicate_at
  saying-all k h =
      rw (eq-eqb (get_or facts (i * fact_words) 0) (predicate_of l) s.predicate)
      (passed-all k (λ m. eqb (object_at facts i m) (given_at env l m)) j s.passed h)

-- the words that it reads
module _ {env : List ℕ} {l k j : ℕ} (q : Placed env l k) (h : j < k) where
  pub placed-place : j < most_places
  placed-place = omega (arith, q.most)

  pub placed-term : {t : ℕ} → t ≡ place_at l j → t < length env
  placed-term e = omega (arith, q.words, q.below j h)

  pub placed_row : (facts : List ℕ) (i : ℕ) → i * fact_words + fact_words ≤ length facts → i * fact_words + 1 + j < length facts
  placed_row facts i r = omega (arith, q.most)

-- a row that says the fact is in the fact's bucket
in-bucket : (ar facts env : List ℕ) (l k i : ℕ) → k ≡ place_count ar (predicate_of l) → says facts env l k i ≡ true → bucket_at ar facts i ≡ bucket_of env l k
unfolding bucket_at bucket_of says
in-bucket ar facts env l k i a e =
    let q : predicate_at facts i ≡ predicate_of l = eqb-true _ _ (and_left (eqb (predicate_at facts i) (predicate_of l)) _ e) in
    let r = and_right (eqb (predicate_at facts i) (predicate_of l)) _ e in
    ap (λ (p : ℕ). bucket_for (hash_of p (object_at facts i) (place_count ar p))) q
    ∙ ap bucket_for (ap (hash_of (predicate_of l) (object_at facts i)) (sym a)
    ∙ hash-same (predicate_of l) (object_at facts i) (given_at env l) k (λ j h.
    eqb-true _ _ (below-every k (λ m. eqb (object_at facts i m) (given_at env l m)) j r h)))

-- so the index is asked for the rows that say it
pub asks : {facts index env : List ℕ} {l k b : ℕ} → Asked facts index env l k b → Asks facts index (says facts env l k) b
unfolding bucket_of bucket_for
asks {facts} {index} {env} {l} {k} a = record {
  arities = a.arities;
  fits = a.index-fits;
  bucket = omega (arith, a.bucket);
  only = λ i e. in-bucket a.arities facts env l k i a.arity e ∙ sym a.bucket;
}

-- the search of the rows behind the index, from a row on
pub record Scan (facts env : List ℕ) (l k from i : ℕ) : Type 0 where
  pub passed : (j : ℕ) → from ≤ j → j < i → says facts env l k j ≡ false

module _ (facts env : List ℕ) (l k from : ℕ) where
  pub scan-start : Scan facts env l k from from
  scan-start = record { passed = λ j h m. absurd (omega arith) }

  pub scan-hit : {i : ℕ} {r : Bool} → r ≡ says facts env l k i → r ≡ true → i < length facts / fact_words → Sought (says facts env l k) from (fact_count facts) true
  scan-hit {i} e t h = record { yes = λ z. (i, h, sym e ∙ t); no = λ z. clash refl z }

  pub scan-on : {i : ℕ} {r : Bool} → Scan facts env l k from i → r ≡ says facts env l k i → r ≡ false → Scan facts env l k from (i + 1)
  scan-on {i} s e t = record { passed = λ j h m. step j h (cmp j i) m }
    where
      step : (j : ℕ) → from ≤ j → Cmp j i → j < i + 1 → says facts env l k j ≡ false
      step j h (below c) m = s.passed j h c
      step j h (equal c) m = subst (λ (y : ℕ). says facts env l k y ≡ false) (sym c) (sym e ∙ t)
      step j h (above c) m = absurd (omega arith)

  pub scan-none : {i : ℕ} → Scan facts env l k from i → length facts / fact_words ≤ i → Sought (says facts env l k) from (fact_count facts) false
  scan-none {i} s h = record { yes = λ t. clash t refl; no = λ t j m q. s.passed j m (omega arith) }

-- both together: every row was asked
module _ (facts index env : List ℕ) (l k : ℕ) {r : Bool} (s : Sought (says facts env l k) 0 (indexed_count facts index) r) where
  pub found-indexed : r ≡ true → r ≡ some_below (fact_count facts) (says facts env l k)
  unfolding indexed_count
  found-indexed e =
      let f = s.yes e in
      let h = f.1 in
      e ∙ sym (some-made (fact_count facts) (says facts env l k) f.0 (omega arith) f.2)

  pub found-scanned : {q : Bool} → r ≡ false → Sought (says facts env l k) (length index - buckets) (fact_count facts) q
      → q ≡ some_below (fact_count facts) (says facts env l k)
  unfolding indexed_count
  found-scanned {q} e t = go (flag q)
    where
      all : q ≡ false → (i : ℕ) → i < fact_count facts → says facts env l k i ≡ false
      all z i h = each (cmp i (length index - buckets))
        where
          each : Cmp i (length index - buckets) → says facts env l k i ≡ false
          each (below c) = s.no e i (omega arith) (omega arith)
          each (equal c) = t.no z i (omega arith) h
          each (above c) = t.no z i (omega arith) h

      go : Flag q → q ≡ some_below (fact_count facts) (says facts env l k)
      go (is_true z) = let f = t.yes z in z ∙ sym (some-made (fact_count facts) (says facts env l k) f.0 f.1 f.2)
      go (is_false z) = z ∙ sym (some-none (fact_count facts) (says facts env l k) (all z))
