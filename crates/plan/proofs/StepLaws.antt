-- The ways through the functions of the walk, each in the words of what its callees ensure.
use mathlib.Core.Path.{◌≡◌, refl, sym, ap, subst, ◌∙◌}
use mathlib.Core.Logic.{⊎_elim}
use mathlib.Core.Bool.{Bool, true, false}
use mathlib.Core.List.{List}
use Prim.Native.Nat.{ℕ, zero, suc, ◌+◌, ◌-◌, ◌*◌, ◌/◌, ◌%◌, ◌<◌, ◌≤◌, zero-le}
use native.Mathlib.Omega.{arith}
use lib.ListN.{length, get_or, set, length-set}
use lib.Dec.{eqb}
use borrow.Author.Tests.{eq-eqb, ne_eqb}
use lib.Seq.{get_or-set_same, get_or-set_other}
use Rattle.label.specs.Inner.{Compared}
use Rattle.label.proofs.OrderLaws.{compared-less, compared-not}
use Rattle.label.specs.Limits.{leaf_mark}
use Rattle.table.specs.Chains.{prev, Walking, Cleared}
use Rattle.table.specs.ChainLaws.{test, prev-same, prev-other, prev-none}
use Rattle.table.specs.ChainedLaws.{walking_start, walking_on, link-less, cleared-on, cleared-all}
use Rattle.diagram.specs.Words.{label_at, high_at, low_at}
use Rattle.apply.specs.declared.Operation.{Operation}
use Rattle.apply.specs.Pairs.{absorbs}
use Rattle.plan.specs.Walk.{is_end, lesser, pair_label, on_high, on_low}
use Rattle.plan.specs.WalkLaws.{lesser-le, lesser-gt, end-label, lower-label, descend-first, descend-second, descend-both}
use Rattle.plan.specs.Plan.{buckets, key_count, hash_of, key_at, link_at, hash_at, put_entry, Index, Clean, Touched, pack_base, went_of, Entered}
use Rattle.plan.specs.PlanLaws.{chained}
use Rattle.std.specs.Prelude.{None, Option, Some}

-- the search of a chain for the key k
pub record Chain (ws : List ℕ) (count k at : ℕ) : Type 0 where
  pub walking : Walking (hash_at ws) count (hash_of k) (λ i. key_at ws i ≡ k) at

in-bucket : (ws : List ℕ) (k i : ℕ) → key_at ws i ≡ k → hash_at ws i ≡ hash_of k
unfolding hash_at
in-bucket ws k i e = ap hash_of e

-- one more than the last place where f is b
last-place : (f : ℕ → ℕ) (b n i : ℕ) → i < n → f i ≡ b → ((k : ℕ) → i < k → k < n → f k ≡ b → ⊥) → prev f b n ≡ suc i
last-place f b zero i h e g = absurd (omega arith)
last-place f b (suc n) i h e g =
    ⊎_elim (λ (p : i ≡ n). prev-same f b n (ap f (sym p) ∙ e) ∙ ap suc (sym p))
    (λ (p : i ≡ n → ⊥). prev-other f b n (g n (omega arith) (omega arith)) ∙ last-place f b n i (omega arith) e (λ k l m. g k l (omega arith)))
    (test i n)

module _ {ws heads : List ℕ} {limit count k : ℕ} (t : Index ws heads limit count) where
  pub chain-start : {b at : ℕ} → (b ≡ hash_of k) × (b < buckets) → at ≡ get_or heads b 0 → Chain ws count k at
  chain-start h e = record { walking = walking_start (chained t) (in-bucket ws k) (omega (arith, h.0, h.1)) (e ∙ ap (λ (x : ℕ). get_or heads x 0) h.0) }

  module _ {at : ℕ} (w : Chain ws count k at) (n : at ≡ 0 → ⊥) where
    up : suc (at - 1) ≡ at
    up = omega arith

    pub chain-hit : get_or ws ((at - 1) * 5) 0 ≡ k → at ≡ prev (key_at ws) k count
    unfolding key_at
    chain-hit e = sym (last-place (key_at ws) k count (at - 1) (omega (arith, w.walking.below)) e (λ i l m. w.walking.passed i (omega arith) m) ∙ up)

    pub chain-on : (get_or ws ((at - 1) * 5) 0 ≡ k → ⊥) → Chain ws count k (get_or ws ((at - 1) * 5 + 1) 0)
    unfolding key_at link_at
    chain-on f = record { walking = walking_on (chained t) (in-bucket ws k) w.walking n f }

    pub chain-less : get_or ws ((at - 1) * 5 + 1) 0 < at
    unfolding link_at
    chain-less = link-less (chained t) w.walking.below n

  pub chain-none : {at : ℕ} → Chain ws count k at → at ≡ 0 → 0 ≡ prev (key_at ws) k count
  chain-none w e = sym (prev-none (key_at ws) k count (λ i l p. w.walking.passed i (omega arith) l p))

-- the loop of `clear`: the buckets that no entry from i on has are clean
pub record Clearing (ws heads : List ℕ) (count i : ℕ) : Type 0 where
  pub below : i ≤ count
  pub slots : buckets ≤ length heads
  pub cleared : Cleared (hash_at ws) buckets (λ b. get_or heads b 0) count i

pub clear-start : {ws heads : List ℕ} {count : ℕ} → Touched ws heads count → Clearing ws heads count 0
clear-start t = record { below = zero-le; slots = t.slots; cleared = record { others = λ b h f. t.others b h (λ k l. f k zero-le l) } }

pub clear-key : {ws heads : List ℕ} {count i : ℕ} → Touched ws heads count → i < count → get_or ws (i * 5) 0 < key_count
unfolding key_at
clear-key {ws} {heads} {count} {i} t h = t.keys i h

pub clear-on : {ws heads : List ℕ} {count i b : ℕ} → Clearing ws heads count i → i < count → (b ≡ hash_of (get_or ws (i * 5) 0)) × (b < buckets)
    → Clearing ws (set heads b 0) count (i + 1)
unfolding hash_at key_at
clear-on {ws} {heads} {count} {i} {b} w l h = record {
  below = omega arith;
  slots = rw length-set w.slots;
  cleared = cleared-on w.cleared b _ h.0 (get_or-set_same heads b 0 0 (omega (arith, h.1, w.slots))) (λ x m e. get_or-set_other heads b x 0 0 e);
}

pub clear-end : {ws heads : List ℕ} {count i : ℕ} → Clearing ws heads count i → count ≤ i → Clean heads
clear-end w h = record { slots = w.slots; zeros = cleared-all w.cleared h }

-- the ways out of `add`
module _ {ws heads : List ℕ} {limit count k label first second : ℕ} where
  pub add-full : count ≡ limit → Entered ws heads limit count k label first second None ws heads
  add-full e = record { to = λ m n q. absurd (let z : ◌≡◌ {A = ℕ} 0 1 = cc in omega arith); full = λ q. (e, refl, refl) }

  pub add-to : {b link : ℕ} → Index ws heads limit count → (count ≡ limit → ⊥) → (b ≡ hash_of k) × (b < buckets) → link ≡ get_or heads b 0
      → Entered ws heads limit count k label first second (Some (count, (count + 1)))
      (set (set (set (set (set ws (count * 5) k) (count * 5 + 1) link) (count * 5 + 2) label) (count * 5 + 3) first) (count * 5 + 4) second)
      (set heads b (count + 1))
  unfolding put_entry
  add-to {b} {link} t f h d = record {
    to = λ m n q. (
      (let z : ◌≡◌ {A = ℕ × ℕ} (count, count + 1) (m, n) = cc in sym (ap (λ (p : ℕ × ℕ). p.0) z)),
      (let z : ◌≡◌ {A = ℕ × ℕ} (count, count + 1) (m, n) = cc in sym (ap (λ (p : ℕ × ℕ). p.1) z)),
      omega (arith, t.within),
      ap (λ (c : ℕ). put_entry ws count k c label first second) (d ∙ ap (λ (c : ℕ). get_or heads c 0) h.0),
      ap (λ (c : ℕ). set heads c (count + 1)) h.0,
    );
    full = λ q. absurd (let z : ◌≡◌ {A = ℕ} 0 1 = cc in omega arith);
  }

-- an answer in one word
pub packed-to : (number count : ℕ) → (number < pack_base) × (0 < count) × (count < pack_base) → went_of (count * pack_base + number) ≡ Some (number, count)
unfolding went_of
packed-to number count h =
    let low : (count * pack_base + number) % pack_base ≡ number = omega (arith, h.0) in
    let high : (count * pack_base + number) / pack_base ≡ count = omega (arith, h.0) in
    rw (ne_eqb (count * pack_base + number) 0 (λ e. omega (arith, h.1)), low, high)

pub word-full : (r : ℕ) → r ≡ 0 → went_of r ≡ None
unfolding went_of
word-full r e = rw e

pub word-to : (r : ℕ) → (r ≡ 0 → ⊥) → went_of r ≡ Some ((r % pack_base), (r / pack_base))
unfolding went_of
word-to r f = rw (ne_eqb r 0 f)

module _ {ws heads : List ℕ} {limit count k label first second : ℕ} where
  pub add_none : count ≡ limit → Entered ws heads limit count k label first second (went_of 0) ws heads
  add_none e = subst (λ (z : Option (ℕ × ℕ)). Entered ws heads limit count k label first second z ws heads) (sym (word-full 0 refl)) (add-full e)

  pub add-answer : {b link : ℕ} {z : Option (ℕ × ℕ)} → Index ws heads limit count → (count ≡ limit → ⊥) → (b ≡ hash_of k) × (b < buckets) → link ≡ get_or heads b 0
      → z ≡ Some (count, (count + 1))
      → Entered ws heads limit count k label first second z
      (set (set (set (set (set ws (count * 5) k) (count * 5 + 1) link) (count * 5 + 2) label) (count * 5 + 3) first) (count * 5 + 4) second)
      (set heads b (count + 1))
  add-answer {b} {link} t f h d e =
      subst (λ (w : Option (ℕ × ℕ)). Entered ws heads limit count k label first second w
      (set (set (set (set (set ws (count * 5) k) (count * 5 + 1) link) (count * 5 + 2) label) (count * 5 + 3) first) (count * 5 + 4) second)
      (set heads b (count + 1))) (sym e) (add-to t f h d)

-- the ways out of `lower`
pub lower-second : {a b : ℕ} {r : Bool} → Compared b a r → r ≡ true → b ≡ lesser a b
lower-second {a} {b} q e = sym (lesser-gt a b (compared-less b a q e))

pub lower-first : {a b : ℕ} {r : Bool} → Compared b a r → r ≡ false → a ≡ lesser a b
lower-first {a} {b} q e = sym (lesser-le a b (compared-not b a q e))

-- the ways out of `ends` and `pair_label`
module _ (op : Operation) (x y : List ℕ) (i j : ℕ) where
  pub ends-leaves : get_or x (i * 3) 0 ≡ leaf_mark → get_or y (j * 3) 0 ≡ leaf_mark → eqb (get_or y (j * 3) 0) leaf_mark ≡ is_end op x y (i, j)
  unfolding is_end label_at
  ends-leaves e d = rw (eq-eqb (get_or x (i * 3) 0) leaf_mark e, eq-eqb (get_or y (j * 3) 0) leaf_mark d)

  pub ends-first : {b : Bool} → get_or x (i * 3) 0 ≡ leaf_mark → (get_or y (j * 3) 0 ≡ leaf_mark → ⊥) → b ≡ absorbs op (get_or x (i * 3 + 1) 0) → b ≡ is_end op x y (i, j)
  unfolding is_end label_at high_at
  ends-first e f b = rw (eq-eqb (get_or x (i * 3) 0) leaf_mark e, ne_eqb (get_or y (j * 3) 0) leaf_mark f) b

  pub ends-second : {b : Bool} → (get_or x (i * 3) 0 ≡ leaf_mark → ⊥) → get_or y (j * 3) 0 ≡ leaf_mark → b ≡ absorbs op (get_or y (j * 3 + 1) 0) → b ≡ is_end op x y (i, j)
  unfolding is_end label_at high_at
  ends-second f d b = rw (ne_eqb (get_or x (i * 3) 0) leaf_mark f, eq-eqb (get_or y (j * 3) 0) leaf_mark d) b

  pub ends-not : (get_or x (i * 3) 0 ≡ leaf_mark → ⊥) → (get_or y (j * 3) 0 ≡ leaf_mark → ⊥) → eqb (get_or y (j * 3) 0) leaf_mark ≡ is_end op x y (i, j)
  unfolding is_end label_at
  ends-not f g = rw (ne_eqb (get_or x (i * 3) 0) leaf_mark f, ne_eqb (get_or y (j * 3) 0) leaf_mark g)

  pub label-end : {b : Bool} → b ≡ is_end op x y (i, j) → b ≡ true → leaf_mark ≡ pair_label op x y (i, j)
  label-end e t = sym (end-label op x y (i, j) (sym e ∙ t))

  pub label-lower : {b : Bool} {l : ℕ} → b ≡ is_end op x y (i, j) → b ≡ false → l ≡ lesser (get_or x (i * 3) 0) (get_or y (j * 3) 0) → l ≡ pair_label op x y (i, j)
  unfolding label_at
  label-lower e t l = l ∙ sym (lower-label op x y (i, j) (sym e ∙ t))

-- the ways out of `successors`
module _ (x y : List ℕ) (i j : ℕ) where
  pub ways-first : {r : Bool} → Compared (get_or x (i * 3) 0) (get_or y (j * 3) 0) r → r ≡ true
      → ((get_or x (i * 3 + 1) 0, j) ≡ on_high x y (i, j)) × ((get_or x (i * 3 + 2) 0, j) ≡ on_low x y (i, j))
  unfolding label_at high_at low_at
  ways-first q e = let h = compared-less (label_at x i) (label_at y j) q e in (sym (descend-first high_at x y (i, j) h), sym (descend-first low_at x y (i, j) h))

  pub ways-second : {r : Bool} → Compared (get_or y (j * 3) 0) (get_or x (i * 3) 0) r → r ≡ true
      → ((i, get_or y (j * 3 + 1) 0) ≡ on_high x y (i, j)) × ((i, get_or y (j * 3 + 2) 0) ≡ on_low x y (i, j))
  unfolding label_at high_at low_at
  ways-second q e = let h = compared-less (label_at y j) (label_at x i) q e in (sym (descend-second high_at x y (i, j) h), sym (descend-second low_at x y (i, j) h))

  pub ways-both : {r s : Bool} → Compared (get_or x (i * 3) 0) (get_or y (j * 3) 0) r → r ≡ false → Compared (get_or y (j * 3) 0) (get_or x (i * 3) 0) s → s ≡ false
      → ((get_or x (i * 3 + 1) 0, get_or y (j * 3 + 1) 0) ≡ on_high x y (i, j)) × ((get_or x (i * 3 + 2) 0, get_or y (j * 3 + 2) 0) ≡ on_low x y (i, j))
  unfolding label_at high_at low_at
  ways-both q e q' e' =
      let z : label_at x i ≡ label_at y j = omega (arith, compared-not (label_at x i) (label_at y j) q e, compared-not (label_at y j) (label_at x i) q' e') in
      (sym (descend-both high_at x y (i, j) z), sym (descend-both low_at x y (i, j) z))
