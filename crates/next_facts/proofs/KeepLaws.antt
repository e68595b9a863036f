-- Laws of the rows of a predicate that stays, in the words of the code.
use mathlib.Core.Path.{◌≡◌, refl, sym, ap, subst, ◌∙◌}
use mathlib.Core.Bool.{Bool, true, false, not}
use mathlib.Core.List.{List, [], ◌∷◌}
use Prim.Native.Nat.{ℕ, zero, suc, ◌+◌, ◌-◌, ◌*◌, ◌≤◌, ◌<◌}
use native.Mathlib.Omega.{arith}
use lib.ListN.{length, get_or, take, drop, length-drop}
use lib.Seq.{length-take-le, get_or-take, get_or-drop}
use lib.Dec.{ltb}
use borrow.Author.Tests.{eq-eqb, ne_eqb, ltb-true, not-false}
use borrow.Author.Count.{below_more}
use Rattle.basics.specs.Tests.{Cmp, below, equal, above, cmp}
use Rattle.basics.specs.Members.{clash}
use Rattle.label.specs.Limits.{most_places}
use Rattle.label.specs.Labels.{are_arities}
use Rattle.label.proofs.ArityLaws.{arity-most}
use Rattle.state.specs.Lent.{fact_words, fact_count, predicate_at}
use Rattle.reduction.specs.Claims.{Lower, differs, onwards}
use Rattle.state.specs.Lent.{fact_row}
use Rattle.next_facts.specs.Filling.{objects_in, Filled, Room}
use Rattle.next_facts.specs.FillingLaws.{gather-up_to, gather-most, filled_none, filled-few, filled-then, filled_more}
use Rattle.next_facts.specs.Keeping.{key_at, Ordered, kept_at, kept_rows}
use Rattle.next_facts.specs.KeepingLaws.{key-lower}
use Rattle.std.specs.Prelude.{None, Option, Some}

-- `is_lower`: the words before j are the same
pub record Lowering (facts : List ℕ) (a b k j : ℕ) : Type 0 where
  pub first : a + fact_words ≤ length facts
  pub second : b + fact_words ≤ length facts
  pub few : k ≤ most_places
  pub same : (m : ℕ) → m < j → get_or facts (a + m) 0 ≡ get_or facts (b + m) 0

pub lowering-start : {facts : List ℕ} {a b k : ℕ} → a + fact_words ≤ length facts → b + fact_words ≤ length facts → k ≤ most_places → Lowering facts a b k 0
lowering-start h g f = record { first = h; second = g; few = f; same = λ m l. absurd (omega arith) }

lower-at : (xs ys : List ℕ) (j : ℕ) → j < length xs → j < length ys → ((m : ℕ) → m < j → get_or xs m 0 ≡ get_or ys m 0) → get_or xs j 0 < get_or ys j 0 → Lower xs ys
lower-at [] ys j h g s l = absurd (omega arith)
lower-at (x ∷ xs) [] j h g s l = absurd (omega arith)
lower-at (x ∷ xs) (y ∷ ys) zero h g s l = differs l
lower-at (x ∷ xs) (y ∷ ys) (suc j) h g s l =
    subst (λ (z : ℕ). Lower (x ∷ xs) (z ∷ ys)) (s 0 (omega arith)) (onwards (lower-at xs ys j (omega arith) (omega arith) (λ m q. s (suc m) (omega arith)) l))

words-at : (facts : List ℕ) (a k j : ℕ) → j ≤ k → get_or (take (suc k) (drop a facts)) j 0 ≡ get_or facts (a + j) 0
words-at facts a k j h = get_or-take (suc k) (drop a facts) j 0 (omega arith) ∙ get_or-drop a facts j 0

words-length : (facts : List ℕ) (a k : ℕ) → a + suc k ≤ length facts → length (take (suc k) (drop a facts)) ≡ suc k
words-length facts a k h = length-take-le (suc k) (drop a facts) (omega (arith, length-drop a facts))

module _ {facts : List ℕ} {a b k j : ℕ} (s : Lowering facts a b k j) (h : j ≤ k) where
  pub lowering-first : a + j < length facts
  lowering-first = omega (arith, s.first, s.few)

  pub lowering-second : b + j < length facts
  lowering-second = omega (arith, s.second, s.few)

  pub lowering-found : ltb (get_or facts (a + j) 0) (get_or facts (b + j) 0) ≡ true → Lower (take (suc k) (drop a facts)) (take (suc k) (drop b facts))
  lowering-found e =
      let u = words-at facts a k j h in
      let v = words-at facts b k j h in
      let l = ltb-true (get_or facts (a + j) 0) (get_or facts (b + j) 0) e in
      lower-at (take (suc k) (drop a facts)) (take (suc k) (drop b facts)) j (omega (arith, words-length facts a k (omega (arith, s.first, s.few))))
      (omega (arith, words-length facts b k (omega (arith, s.second, s.few))))
      (λ m q. words-at facts a k m (omega arith) ∙ s.same m q ∙ sym (words-at facts b k m (omega arith))) (omega arith)

  pub lowering-on : get_or facts (a + j) 0 ≡ get_or facts (b + j) 0 → Lowering facts a b k (j + 1)
  lowering-on e = record {
    first = s.first;
    second = s.second;
    few = s.few;
    same = below_more (λ m. get_or facts (a + m) 0 ≡ get_or facts (b + m) 0) j s.same e;
  }

pub never : {A : Type 0} → false ≡ true → A
never e = clash e refl

-- `are_ordered`: rows before i are
pub record Ordering (ar facts : List ℕ) (i : ℕ) : Type 0 where
  pub arities : are_arities ar ≡ true
  pub some : 0 < i
  pub each : (m : ℕ) → suc m < i → Lower (key_at ar facts m) (key_at ar facts (suc m))

pub ordering-start : {ar : List ℕ} (facts : List ℕ) → are_arities ar ≡ true → Ordering ar facts 1
ordering-start facts e = record { arities = e; some = omega arith; each = λ m l. absurd (omega arith) }

module _ {ar facts : List ℕ} {i : ℕ} (s : Ordering ar facts i) (h : i < fact_count facts) where
  pub ordering-back : fact_words ≤ i * fact_words
  ordering-back = omega (arith, s.some)

  pub ordering-read : i * fact_words - fact_words < length facts
  ordering-read = omega (arith, s.some)

  module _ {k : ℕ} (e : k ≡ get_or ar (get_or facts (i * fact_words - fact_words) 0) 0) where
    pub ordering-ask : (i * fact_words - fact_words + fact_words ≤ length facts) × (i * fact_words + fact_words ≤ length facts) × (k ≤ most_places)
    ordering-ask = (omega (arith, s.some), omega arith, omega (arith, arity-most ar (get_or facts (i * fact_words - fact_words) 0) s.arities))

    pub ordering-on : {b : Bool} → (b ≡ true → Lower (take (suc k) (drop (i * fact_words - fact_words) facts)) (take (suc k) (drop (i * fact_words) facts))) → not b ≡ false
        → Ordering ar facts (i + 1)
    ordering-on {b} l n = record { arities = s.arities; some = omega arith; each = λ m q. go m q (cmp (suc m) i) }
      where
        here : (m : ℕ) → suc m ≡ i → Lower (key_at ar facts m) (key_at ar facts (suc m))
        here m z =
            let x : i * fact_words - fact_words ≡ m * fact_words = omega arith in
            let y : i * fact_words ≡ suc m * fact_words = omega arith in
            key-lower ar facts m k (omega arith) (e ∙ ap (λ (c : ℕ). get_or ar (get_or facts c 0) 0) x)
            (subst (λ (c : ℕ). Lower (take (suc k) (drop (m * fact_words) facts)) (take (suc k) (drop c facts))) y
            (subst (λ (c : ℕ). Lower (take (suc k) (drop c facts)) (take (suc k) (drop (i * fact_words) facts))) x (l (not-false b n))))

        go : (m : ℕ) → suc m < i + 1 → Cmp (suc m) i → Lower (key_at ar facts m) (key_at ar facts (suc m))
        go m q (below z) = s.each m z
        go m q (equal z) = here m z
        go m q (above z) = absurd (omega arith)

pub ordering-end : {ar facts : List ℕ} {i : ℕ} → Ordering ar facts i → fact_count facts ≤ i → true ≡ true → Ordered ar facts
ordering-end s h e = record { each = λ m l. s.each m (omega arith) }

-- `keep_row`
module _ (facts : List ℕ) (p k i : ℕ) {out : List ℕ} {count : ℕ} where
  pub row_other : Room out count → (get_or facts (i * fact_words) 0 ≡ p → ⊥) → Filled (kept_at facts p k i) count out (Some count) out
  unfolding kept_at predicate_at
  row_other r n = rw (ne_eqb (get_or facts (i * fact_words) 0) p n) (filled_none out r.few)

  pub row-own : {r : Option ℕ} {out' : List ℕ} → get_or facts (i * fact_words) 0 ≡ p → Filled (fact_row p (objects_in facts (i * fact_words + 1) k) ∷ []) count out r out'
      → Filled (kept_at facts p k i) count out r out'
  unfolding kept_at predicate_at
  row-own e f = rw (eq-eqb (get_or facts (i * fact_words) 0) p e) f

-- `keep`: the rows of p before i are written
pub record Keeping (facts out₀ out : List ℕ) (p k count m i : ℕ) : Type 0 where
  pub few : k ≤ most_places
  pub room : Room out₀ count
  pub most : i ≤ fact_count facts
  pub same : length out ≡ length out₀
  pub filled : Filled (kept_rows facts p k i) count out₀ (Some m) out

pub keeping_start : (facts : List ℕ) {out : List ℕ} (p : ℕ) {k count : ℕ} → k ≤ most_places → Room out count → Keeping facts out out p k count count 0
unfolding kept_rows
keeping_start facts {out} p f r = record { few = f; room = r; most = omega arith; same = refl; filled = filled_none out r.few }

module _ {facts out₀ out : List ℕ} {p k count m i : ℕ} (s : Keeping facts out₀ out p k count m i) (h : i < fact_count facts) where
  pub keeping-ask : (i * fact_words + fact_words ≤ length facts) × (k ≤ most_places) × Room out m
  keeping-ask = (omega arith, s.few, record { words = omega (arith, s.same, s.room.words); few = filled-few s.filled })

  module _ {r : Option ℕ} {out' : List ℕ} (f : Filled (kept_at facts p k i) m out r out') where
    kept_more : Filled (kept_rows facts p k (i + 1)) count out₀ r out'
    unfolding kept_rows
    kept_more = subst (λ (l : List (List ℕ)). Filled l count out₀ r out') (sym (gather-up_to (kept_at facts p k) i)) (filled-then s.filled f)

    pub keeping-many : r ≡ None → Filled (kept_rows facts p k (fact_count facts)) count out₀ None out'
    unfolding kept_rows
    keeping-many e = filled_more (subst (λ (x : Option ℕ). Filled (kept_rows facts p k (i + 1)) count out₀ x out') e kept_more)
        (gather-most (kept_at facts p k) (i + 1) (fact_count facts) (omega arith))

    pub keeping-on : {c : ℕ} → length out' ≡ length out → r ≡ Some c → Keeping facts out₀ out' p k count c (i + 1)
    keeping-on a e = record {
      few = s.few;
      room = s.room;
      most = omega arith;
      same = a ∙ s.same;
      filled = subst (λ (x : Option ℕ). Filled (kept_rows facts p k (i + 1)) count out₀ x out') e kept_more;
    }

pub keeping-end : {facts out₀ out : List ℕ} {p k count m i : ℕ} → Keeping facts out₀ out p k count m i → fact_count facts ≤ i
    → Filled (kept_rows facts p k (fact_count facts)) count out₀ (Some m) out
keeping-end {facts} {out₀} {out} {p} {k} {count} {m} {i} s h =
    subst (λ (x : ℕ). Filled (kept_rows facts p k x) count out₀ (Some m) out) (omega (arith, s.most)) s.filled
