-- A number divided as often as k says: what is left tells whether it is the k-th power.
use mathlib.Core.Path.{◌≡◌, sym, ap, ◌∙◌}
use mathlib.Core.Bool.{false}
use Prim.Native.Nat.{ℕ, zero, suc, ◌+◌, ◌*◌, ◌-◌, ◌/◌, ◌%◌, ◌^◌, ◌≤◌, ◌<◌}
use native.Mathlib.Omega.{arith}
use native.Mathlib.Nat.{pow-zero, pow-suc, pow-le-pow_right, div-add-mod', mul-mod_left, eq_of_mul-eq-mul_right, mul-le-mul_right, one-mul}
use lib.Dec.{eqb}
use borrow.Author.Tests.{eqb-true, eqb-false, ne_eqb}
use Rattle.basics.specs.Tests.{Flag, is_true, is_false, flag}

one-pow : (k : ℕ) → 1 ^ k ≡ 1
one-pow zero = pow-zero 1
one-pow (suc k) = pow-suc 1 k ∙ ap (λ (x : ℕ). x * 1) (one-pow k)

pub power-one : (s k p : ℕ) → s ≡ 1 → eqb p 1 ≡ eqb p (s ^ k)
power-one s k p e = ap (eqb p) (sym (ap (λ (x : ℕ). x ^ k) e ∙ one-pow k))

pow-some : (s k : ℕ) → 1 ≤ s → 1 ≤ s ^ k
pow-some s k h = let e = pow-zero s in let l : s ^ 0 ≤ s ^ k = pow-le-pow_right h (omega arith) in omega arith

-- p was divided by s i times, and x is left
pub record Divided (s k p i x : ℕ) : Type 0 where
  pub most : i ≤ k
  pub same : eqb p (s ^ k) ≡ eqb x (s ^ (k - i))

pub divided-start : (s k p : ℕ) → Divided s k p 0 p
divided-start s k p = record { most = omega arith; same = let e : k ≡ k - 0 = omega arith in ap (λ (j : ℕ). eqb p (s ^ j)) e }

module _ {s k p i x : ℕ} (d : Divided s k p i x) (h : i < k) where
  left : s ^ (k - i) ≡ s ^ (k - (i + 1)) * s
  left = let e : k - i ≡ suc (k - (i + 1)) = omega arith in ap (λ (j : ℕ). s ^ j) e ∙ pow-suc s (k - (i + 1))

  pub divided-low : 1 ≤ s → x < s → false ≡ eqb p (s ^ k)
  divided-low o l =
      sym (d.same ∙ ne_eqb x (s ^ (k - i)) (λ e.
      let y : ℕ = s ^ (k - (i + 1)) in
      let m : 1 * s ≤ y * s = mul-le-mul_right s (pow-some s (k - (i + 1)) o) in
      omega (arith, e, left, m, one-mul s)))

  pub divided-odd : 1 ≤ s → (x % s ≡ 0 → ⊥) → false ≡ eqb p (s ^ k)
  divided-odd o f =
      sym (d.same ∙ ne_eqb x (s ^ (k - i)) (λ e.
      let y : ℕ = s ^ (k - (i + 1)) in
      let q : x ≡ y * s = e ∙ left in
      f (ap (λ (z : ℕ). z % s) q ∙ mul-mod_left y s)))

  pub divided-on : 1 ≤ s → x % s ≡ 0 → Divided s k p (i + 1) (x / s)
  divided-on o w = record { most = omega arith; same = d.same ∙ go (flag (eqb x (s ^ (k - i)))) (flag (eqb (x / s) (s ^ (k - (i + 1))))) }
    where
      e : x / s * s ≡ x
      e = let z = div-add-mod' x s in omega (arith, z, w)

      go : Flag (eqb x (s ^ (k - i))) → Flag (eqb (x / s) (s ^ (k - (i + 1)))) → eqb x (s ^ (k - i)) ≡ eqb (x / s) (s ^ (k - (i + 1)))
      go (is_true a) (is_true b) = a ∙ sym b
      go (is_false a) (is_false b) = a ∙ sym b
      go (is_true a) (is_false b) =
          absurd (eqb-false (x / s) (s ^ (k - (i + 1))) b
          (eq_of_mul-eq-mul_right s o (x / s) (s ^ (k - (i + 1))) (e ∙ eqb-true x (s ^ (k - i)) a ∙ left)))
      go (is_false a) (is_true b) =
          absurd (eqb-false x (s ^ (k - i)) a (sym e ∙ ap (λ (z : ℕ). z * s) (eqb-true (x / s) (s ^ (k - (i + 1))) b) ∙ sym left))

pub divided-end : {s k p i x : ℕ} → Divided s k p i x → k ≤ i → eqb x 1 ≡ eqb p (s ^ k)
divided-end {s} {k} {p} {i} {x} d h =
    let e : k - i ≡ 0 = omega arith in
    sym (d.same ∙ ap (eqb x) (ap (λ (j : ℕ). s ^ j) e ∙ pow-zero s))
