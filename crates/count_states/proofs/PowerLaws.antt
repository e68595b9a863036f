-- Laws of power and ground_count, in the words of the code.
use mathlib.Core.Path.{◌≡◌, refl, ap, ap₂, sym, ◌∙◌}
use mathlib.Core.List.{List}
use Prim.Native.Nat.{ℕ, suc, ◌+◌, ◌*◌, ◌^◌, ◌≤◌, ◌<◌}
use native.Mathlib.Omega.{arith}
use native.Mathlib.Nat.{pow-zero, pow-suc, pow-le-pow_left, pow-le-pow_right, le_trans}
use lib.ListN.{length, get_or}
use Rattle.label.specs.Limits.{most_places, predicate_count}
use Rattle.label.proofs.ArityLaws.{arity-most, arity-words}
use Rattle.spread.specs.Ground.{ground_count}
use Rattle.state.specs.Lent.{most_objects}
use Rattle.count_states.specs.Facts.{most_power, Power, Declared}

-- ===== power =====
pub record Powering (n k p i : ℕ) : Type 0 where
  pub within : i ≤ k
  pub is : p ≡ n ^ i

pub power-start : (n k : ℕ) → Powering n k 1 0
power-start n k = record { within = omega arith; is = sym (pow-zero n) }

module _ {n k p i : ℕ} (w : Power n k) (e : Powering n k p i) (h : i < k) where
  pub power-room : p * n ≤ most_power
  power-room =
      let a : n ^ suc i ≤ n ^ k = pow-le-pow_right w.some h in
      let b : p * n ≡ n ^ suc i = ap (λ x. x * n) e.is ∙ sym (pow-suc n i) in
      let f = w.few in
      omega arith

  pub power-on : Powering n k (p * n) (i + 1)
  power-on =
      let m : suc i ≡ i + 1 = omega arith in
      record { within = omega arith; is = ap (λ x. x * n) e.is ∙ sym (pow-suc n i) ∙ ap (λ x. n ^ x) m }

pub power-end : {n k p i : ℕ} → Powering n k p i → k ≤ i → p ≡ n ^ k
power-end {n} {k} {p} {i} e h = let q : i ≡ k = omega (arith, e.within) in e.is ∙ ap (λ x. n ^ x) q

-- ===== Ground facts are countable =====
power-most : (n k : ℕ) → n ≤ most_objects → k ≤ most_places → n ^ k ≤ most_power
power-most n k h l = le_trans (pow-le-pow_left h k) (pow-le-pow_right {n = most_objects} (omega arith) l)

pub declared-power : {ar : List ℕ} {count n : ℕ} → Declared ar count n → (p : ℕ) → Power n (get_or ar p 0)
declared-power {ar} {count} {n} d p = record { some = d.some; few = power-most n (get_or ar p 0) d.most (arity-most ar p d.arities) }

pub ground-step : (ar : List ℕ) (p n : ℕ) → ground_count ar (p + 1) n ≡ ground_count ar p n + n ^ get_or ar (p + 1) 0
unfolding ground_count
ground-step ar p n = let e : p + 1 ≡ suc p = omega arith in rw e

-- ===== ground_count =====
pub record Grounding (ar : List ℕ) (count n g p : ℕ) : Type 0 where
  pub within : p ≤ count
  pub is : g ≡ ground_count ar p n
  pub most : g ≤ p * most_power

pub ground-start : (ar : List ℕ) (count n : ℕ) → Grounding ar count n 0 0
unfolding ground_count
ground-start ar count n = record { within = omega arith; is = refl; most = omega arith }

module _ {ar : List ℕ} {count n p : ℕ} (d : Declared ar count n) (h : p < count) where
  pub next_place : p + 1 < length ar
  next_place = let a = arity-words ar d.arities in let b = d.few in omega arith

  module _ {g r : ℕ} (e : Grounding ar count n g p) (q : r ≡ n ^ get_or ar (p + 1) 0) where
    pub ground-room : g + r ≤ predicate_count * most_power
    ground-room =
        let a = (declared-power d (p + 1)).few in
        let b = e.most in
        let c = d.few in
        omega arith

    pub ground-on : Grounding ar count n (g + r) (p + 1)
    ground-on = record {
      within = omega arith;
      is = ap₂ ◌+◌ e.is q ∙ sym (ground-step ar p n);
      most = let a = (declared-power d (p + 1)).few in let b = e.most in omega arith;
    }

pub ground-end : {ar : List ℕ} {count n g p : ℕ} → Grounding ar count n g p → count ≤ p → g ≡ ground_count ar count n
ground-end {ar} {count} {n} {g} {p} e h = let q : p ≡ count = omega (arith, e.within) in e.is ∙ ap (λ x. ground_count ar x n) q
