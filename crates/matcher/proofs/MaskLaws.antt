-- Masks are sets: or, and, one bit, the variables of a label.
use mathlib.Core.Path.{◌≡◌, refl, sym, ap, subst, ◌∙◌}
use mathlib.Core.Logic.{◌⊎◌, inl, inr}
use mathlib.Core.Bool.{true}
use Prim.Native.Nat.{ℕ, zero, suc, ◌+◌, ◌-◌, ◌*◌, ◌/◌, ◌%◌, ◌^◌, ◌≤◌, ◌<◌, min, max}
use native.Mathlib.Omega.{arith}
use lib.Pow.{shr-shr, shl_exact}
use lib.Bits.{bit_and, bit_or, and_step, or_step, shifted_half, shifted_even}
use lib.Dec.{eqb}
use borrow.Author.Tests.{eqb-true}
use Rattle.basics.specs.Tests.{Cmp, cmp, below, equal, above}
use Rattle.label.specs.Limits.{first_variable, variable_count, first_minimum, most_places}
use Rattle.label.specs.Labels.{place_at}
use Rattle.matcher.specs.Failure.{bit_at, In, One, Variables}

max-two : (a b : ℕ) → a < 2 → b < 2 → max a b < 2
max-two a b h i = omega arith

or-half : (a b : ℕ) → bit_or a b / 2 ≡ bit_or (a / 2) (b / 2)
or-half a b = let e = or_step a b in let h = max-two (a % 2) (b % 2) (omega arith) (omega arith) in omega arith

or-odd : (a b : ℕ) → bit_or a b % 2 ≡ max (a % 2) (b % 2)
or-odd a b = let e = or_step a b in let h = max-two (a % 2) (b % 2) (omega arith) (omega arith) in omega arith

and-half : (a b : ℕ) → bit_and a b / 2 ≡ bit_and (a / 2) (b / 2)
and-half a b = let e = and_step a b in omega arith

and-odd : (a b : ℕ) → bit_and a b % 2 ≡ min (a % 2) (b % 2)
and-odd a b = let e = and_step a b in omega arith

bit-small : (v m : ℕ) → bit_at m v < 2
unfolding bit_at
bit-small zero m = omega arith
bit-small (suc v) m = bit-small v (m / 2)

or-bit : (v a b : ℕ) → bit_at (bit_or a b) v ≡ max (bit_at a v) (bit_at b v)
unfolding bit_at
or-bit zero a b = or-odd a b
or-bit (suc v) a b = ap (λ (m : ℕ). bit_at m v) (or-half a b) ∙ or-bit v (a / 2) (b / 2)

and-bit : (v a b : ℕ) → bit_at (bit_and a b) v ≡ min (bit_at a v) (bit_at b v)
unfolding bit_at
and-bit zero a b = and-odd a b
and-bit (suc v) a b = ap (λ (m : ℕ). bit_at m v) (and-half a b) ∙ and-bit v (a / 2) (b / 2)

pub in_left : (v a b : ℕ) → In a v → In (bit_or a b) v
in_left v a b h = let e = or-bit v a b in let k = bit-small v b in omega arith

pub in_right : (v a b : ℕ) → In b v → In (bit_or a b) v
in_right v a b h = let e = or-bit v a b in let k = bit-small v a in omega arith

pub in_either : (v a b : ℕ) → In (bit_or a b) v → In a v ⊎ In b v
in_either v a b h = go (bit_at a v) refl
  where
    go : (x : ℕ) → bit_at a v ≡ x → In a v ⊎ In b v
    go zero e = inr (let q = or-bit v a b in omega arith)
    go (suc zero) e = inl e
    go (suc (suc x)) e = absurd (let k = bit-small v a in omega arith)

pub in_both : (v a b : ℕ) → In a v → In b v → In (bit_and a b) v
in_both v a b h i = let e = and-bit v a b in omega arith

pub in-second : (v a b : ℕ) → In (bit_and a b) v → In b v
in-second v a b h = let e = and-bit v a b in let k = bit-small v b in omega arith

pub in-part : (a b v : ℕ) → bit_and a b ≡ a → In a v → In b v
in-part a b v e h = in-second v a b (ap (λ (m : ℕ). bit_at m v) e ∙ h)

-- ===== One bit =====
pub bit-shift : (v m : ℕ) → m / 2 ^ v % 2 ≡ bit_at m v
unfolding bit_at
bit-shift zero m = let e : m / 1 ≡ m = omega arith in ap (λ (x : ℕ). x % 2) e
bit-shift (suc v) m =
    let e : suc v ≡ 1 + v = omega arith in
    ap (λ (i : ℕ). m / 2 ^ i % 2) e ∙ ap (λ (x : ℕ). x % 2) (sym (shr-shr m 1 v)) ∙ bit-shift v (m / 2)

pub has-is : (m v : ℕ) → eqb (m / 2 ^ v % 2) 1 ≡ eqb (bit_at m v) 1
has-is m v = ap (λ (x : ℕ). eqb x 1) (bit-shift v m)

pub part-is : (a b : ℕ) → eqb (bit_and a b) a ≡ true → (v : ℕ) → In a v → In b v
part-is a b e v h = in-part a b v (eqb-true (bit_and a b) a e) h

power-bit : (t v : ℕ) → bit_at (1 * 2 ^ t) v ≡ 1 → v ≡ t
unfolding bit_at
power-bit zero zero h = refl
power-bit zero (suc v) h = absurd (none v h)
  where
    none : (v : ℕ) → bit_at 0 v ≡ 1 → ⊥
    none zero h = omega arith
    none (suc v) h = none v h
power-bit (suc t) zero h = absurd (let e = shifted_even 1 t in omega arith)
power-bit (suc t) (suc v) h = ap suc (power-bit t v (ap (λ (m : ℕ). bit_at m v) (sym (shifted_half 1 t)) ∙ h))

power_in : (t : ℕ) → bit_at (1 * 2 ^ t) t ≡ 1
unfolding bit_at
power_in zero = refl
power_in (suc t) = ap (λ (m : ℕ). bit_at m t) (shifted_half 1 t) ∙ power_in t

shift-exact : (t : ℕ) → t < variable_count → 1 * 2 ^ t % 2 ^ 64 ≡ 1 * 2 ^ t
shift-exact t h = shl_exact 1 t 64 (omega arith) (omega arith)

pub zero-none : (i : ℕ) → In 0 i → ⊥
unfolding bit_at
zero-none zero h = omega arith
zero-none (suc i) h = zero-none i h

pub one_none : (t : ℕ) → t < first_variable → One t 0
one_none t h = record { has = λ i e. absurd (omega arith); only = λ i e. absurd (zero-none i e) }

pub one-some : (t : ℕ) → first_variable ≤ t → t < first_minimum → One t (1 * 2 ^ (t - first_variable) % 2 ^ 64)
one-some t f h = record {
  has = λ i e. let o : t - first_variable ≡ i = omega arith in ap (λ (m : ℕ). bit_at m i) (exact ∙ ap (λ (j : ℕ). 1 * 2 ^ j) o) ∙ power_in i;
  only = λ i e. let o = power-bit (t - first_variable) i (ap (λ (m : ℕ). bit_at m i) (sym exact) ∙ e) in omega arith;
}
  where
    exact : 1 * 2 ^ (t - first_variable) % 2 ^ 64 ≡ 1 * 2 ^ (t - first_variable)
    exact = shift-exact (t - first_variable) (omega arith)

-- ===== The variables of a label =====
pub variables-start : (l : ℕ) → Variables l 0 0
variables-start l = record { has = λ k i h. absurd (omega arith); only = λ i h. absurd (zero-none i h) }

pub variables-next : {l k t m o : ℕ} → Variables l k m → t ≡ place_at l k → One t o → Variables l (k + 1) (bit_or m o)
variables-next {l} {k} {t} {m} {o} v e w = record { has = λ j i h q. has j i h q (cmp j k); only = λ i h. only i (in_either i m o h) }
  where
    has : (j i : ℕ) → j < k + 1 → place_at l j ≡ first_variable + i → Cmp j k → In (bit_or m o) i
    has j i h q (below c) = in_left i m o (v.has j i c q)
    has j i h q (equal c) = in_right i m o (w.has i (e ∙ ap (place_at l) (sym c) ∙ q))
    has j i h q (above c) = absurd (omega arith)

    only : (i : ℕ) → In m i ⊎ In o i → (j : ℕ) × (j < k + 1) × (place_at l j ≡ first_variable + i)
    only i (inl h) = let r = v.only i h in (r.0, omega (arith, r.1), r.2)
    only i (inr h) = (k, omega arith, sym e ∙ w.only i h)

pub variables-end : {l k m : ℕ} → Variables l k m → k ≤ most_places → most_places ≤ k → Variables l most_places m
variables-end {l} {k} {m} v h j = let e : k ≡ most_places = omega arith in subst (λ (n : ℕ). Variables l n m) e v
