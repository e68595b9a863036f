-- Laws of fractions that a number makes whole: n times the fraction is a natural number.
use Rattle.std.specs.Prelude.{◌≡◌, ltb}
use Rattle.std.proofs.Common.{ap, ◌∙◌, mul_comm, mul_assoc, mul_right_comm, le_of_lt, mul-le-mul_right, mul-lt-mul_of_pos_right, ltb-true, ltb-false}
use Rattle.std.proofs.Math.Path.{ap₂, sym}
use mathlib.Core.List.{List, [], ◌∷◌}
use Prim.Native.Nat.{ℕ, zero, suc, ◌+◌, ◌*◌, ◌≤◌, ◌<◌, max}
use native.Mathlib.Omega.{arith}
use Rattle.std.proofs.Math.Nat.{mul-mul-mul_comm, add-mul, mul-pos}
use Rattle.basics.specs.Tests.{Flag, is_true, is_false, flag, Cmp, below, equal, above, cmp}
use Rattle.state.specs.Max.{max_to, max_tuples, max_of, sum_of}
use Rattle.discounted.specs.Fraction.{Fraction, ratio, whole, Equal, plus, times, is_below, higher, highest_of, total_of, highest_to, highest_tuples}

-- n times p is x
pub record Makes (n : ℕ) (p : Fraction) (x : ℕ) : Type 0 where
  pub some : 0 < p.denominator
  pub is : p.numerator * n ≡ x * p.denominator

-- so p is x / n, and n times p is x, as fractions
pub makes-ratio : {n : ℕ} {p : Fraction} {x : ℕ} → 0 < n → Makes n p x → Equal (ratio x n) p
makes-ratio h m = record { left-some = h; right-some = m.some; cross = sym m.is }

pub makes-times : {n : ℕ} {p : Fraction} {x : ℕ} → Makes n p x → Equal (whole x) (times (whole n) p)
unfolding times
makes-times {n} {p} {x} m = record {
  left-some = omega arith;
  right-some = omega (arith, m.some);
  cross = omega (arith, m.is, mul_comm n p.numerator);
}

pub makes-same : {n n' : ℕ} {p : Fraction} {x x' : ℕ} → n ≡ n' → x ≡ x' → Makes n p x → Makes n' p x'
makes-same {p = p} e f m = record {
  some = m.some;
  is = ap (λ z. p.numerator * z) (sym e) ∙ m.is ∙ ap (λ z. z * p.denominator) f;
}

pub makes-whole : (n x : ℕ) → Makes n (whole x) (n * x)
makes-whole n x = record { some = omega arith; is = omega (arith, mul_comm x n) }

-- where n times a / d is x, the same with both parts times b
over-both : (a d b n x : ℕ) → a * n ≡ x * d → a * b * n ≡ x * (d * b)
over-both a d b n x e = mul_right_comm a b n ∙ ap (λ z. z * b) e ∙ mul_assoc x d b

-- a and b are in the order of x and y, where n times a is d times x and n times b is d times y
order-kept : (a b n x y d : ℕ) → 0 < n → a * n ≡ x * d → b * n ≡ y * d → a < b → x ≤ y
order-kept a b n x y d h e f l = go (cmp y x)
  where
    go : Cmp y x → x ≤ y
    go (below k) = absurd (omega (arith, mul-lt-mul_of_pos_right l h, mul-le-mul_right d (le_of_lt k)))
    go (equal k) = omega arith
    go (above k) = omega arith

order-back : (a b n x y d : ℕ) → 0 < d → a * n ≡ x * d → b * n ≡ y * d → b ≤ a → y ≤ x
order-back a b n x y d h e f l = go (cmp x y)
  where
    go : Cmp x y → y ≤ x
    go (below k) = absurd (omega (arith, mul-lt-mul_of_pos_right k h, mul-le-mul_right n l))
    go (equal k) = omega arith
    go (above k) = omega arith

module _ {n : ℕ} {p q : Fraction} {x y : ℕ} (mp : Makes n p x) (mq : Makes n q y) where
  left : p.numerator * q.denominator * n ≡ x * (p.denominator * q.denominator)
  left = over-both p.numerator p.denominator q.denominator n x mp.is

  right : q.numerator * p.denominator * n ≡ y * (p.denominator * q.denominator)
  right = over-both q.numerator q.denominator p.denominator n y mq.is ∙ ap (λ z. y * z) (mul_comm q.denominator p.denominator)

  pub makes-plus : Makes n (plus p q) (x + y)
  unfolding plus
  makes-plus = record {
    some = mul-pos mp.some mq.some;
    is = add-mul (p.numerator * q.denominator) (q.numerator * p.denominator) n ∙ ap₂ ◌+◌ left right
        ∙ sym (add-mul x y (p.denominator * q.denominator));
  }

  pub makes-higher : 0 < n → Makes n (higher p q) (max x y)
  unfolding higher is_below
  makes-higher h = go (flag (ltb (p.numerator * q.denominator) (q.numerator * p.denominator)))
    where
      go : Flag (ltb (p.numerator * q.denominator) (q.numerator * p.denominator)) → Makes n (higher p q) (max x y)
      go (is_true e) =
          let o = order-kept _ _ n x y _ h left right (ltb-true _ _ e) in
          let z : max x y ≡ y = omega arith in
          rw (e, z) mq
      go (is_false e) =
          let o = order-back _ _ n x y _ (mul-pos mp.some mq.some) left right (ltb-false _ _ e) in
          let z : max x y ≡ x = omega arith in
          rw (e, z) mp

pub makes-part : {n : ℕ} {q : Fraction} {y : ℕ} (g d : ℕ) → 0 < d → Makes n q y → Makes (d * n) (times (ratio g d) q) (g * y)
unfolding times
makes-part {n} {q} {y} g d h m = record {
  some = mul-pos h m.some;
  is = mul-mul-mul_comm g q.numerator d n ∙ ap (λ z. g * d * z) m.is ∙ mul-mul-mul_comm g d y q.denominator;
}

-- 0 is 0 times anything
makes_none : (n : ℕ) → Makes n (whole 0) 0
makes_none n = record { some = omega arith; is = omega arith }

module _ {A : Type 0} (n : ℕ) (h : 0 < n) (f : A → Fraction) (g : A → ℕ) (each : (a : A) → Makes n (f a) (g a)) where
  pub makes-highest_of : (l : List A) → Makes n (highest_of l f) (max_of l g)
  unfolding highest_of max_of
  makes-highest_of [] = makes_none n
  makes-highest_of (a ∷ l) = makes-higher (each a) (makes-highest_of l) h

  pub makes-total_of : (l : List A) → Makes n (total_of l f) (sum_of l g)
  unfolding total_of sum_of
  makes-total_of [] = makes_none n
  makes-total_of (a ∷ l) = makes-plus (each a) (makes-total_of l)

makes-highest_to : (n : ℕ) → 0 < n → (f : ℕ → Fraction) (g : ℕ → ℕ) → ((o : ℕ) → Makes n (f o) (g o)) → (m : ℕ) → Makes n (highest_to m f) (max_to m g)
unfolding highest_to max_to
makes-highest_to n h f g each zero = makes_none n
makes-highest_to n h f g each (suc m) = makes-higher (makes-highest_to n h f g each m) (each m) h

pub makes-highest_tuples : (n : ℕ) → 0 < n → (size c : ℕ) (f : List ℕ → Fraction) (g : List ℕ → ℕ) → ((os : List ℕ) → Makes n (f os) (g os))
    → Makes n (highest_tuples size c f) (max_tuples size c g)
unfolding highest_tuples max_tuples
makes-highest_tuples n h size zero f g each = each []
makes-highest_tuples n h size (suc c) f g each =
    makes-highest_to n h _ _ (λ o. makes-highest_tuples n h size c (λ os. f (o ∷ os)) (λ os. g (o ∷ os)) (λ os. each (o ∷ os))) size
