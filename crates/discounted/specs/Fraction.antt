-- Fractions of natural numbers: what is needed to say a Bellman value with discount and probabilities.
use Rattle.std.specs.Prelude.{◌≡◌, Bool, cond, ℕ, zero, suc, ◌+◌, ◌*◌, ◌<◌, ltb}
use mathlib.Core.List.{List, [], ◌∷◌}

-- numerator / denominator
pub record Fraction : Type 0 where
  pub numerator : ℕ
  pub denominator : ℕ

abbrev pub ratio : ℕ → ℕ → Fraction
ratio x y = record { numerator = x; denominator = y }

-- a whole number
abbrev pub whole : ℕ → Fraction
whole x = ratio x 1

-- two fractions are equal: neither denominator is 0, and the cross products are equal
pub record Equal (p q : Fraction) : Type 0 where
  pub left-some : 0 < p.denominator
  pub right-some : 0 < q.denominator
  pub cross : p.numerator * q.denominator ≡ q.numerator * p.denominator

-- p + q, p · q
unfoldable pub plus : Fraction → Fraction → Fraction
plus p q = ratio (p.numerator * q.denominator + q.numerator * p.denominator) (p.denominator * q.denominator)

unfoldable pub times : Fraction → Fraction → Fraction
times p q = ratio (p.numerator * q.numerator) (p.denominator * q.denominator)

-- p is below q, by the cross products; the higher of the two
unfoldable pub is_below : Fraction → Fraction → Bool
is_below p q = ltb (p.numerator * q.denominator) (q.numerator * p.denominator)

unfoldable pub higher : Fraction → Fraction → Fraction
unfolding is_below
higher p q = cond (is_below p q) q p

-- the highest and the sum over a list; 0 if there is none
module _ {A : Type 0} where
  unfoldable pub highest_of : List A → (A → Fraction) → Fraction
  unfolding higher
  highest_of [] f = whole 0
  highest_of (a ∷ l) f = higher (f a) (highest_of l f)

  unfoldable pub total_of : List A → (A → Fraction) → Fraction
  unfolding plus
  total_of [] f = whole 0
  total_of (a ∷ l) f = plus (f a) (total_of l f)

-- the highest of f 0 .. f (n - 1); 0 if there is none
unfoldable pub highest_to : ℕ → (ℕ → Fraction) → Fraction
unfolding higher
highest_to zero f = whole 0
highest_to (suc n) f = higher (highest_to n f) (f n)

-- the highest over all tuples of c objects below n
unfoldable pub highest_tuples : ℕ → ℕ → (List ℕ → Fraction) → Fraction
unfolding highest_to
highest_tuples n zero f = f []
highest_tuples n (suc c) f = highest_to n (λ o. highest_tuples n c (λ os. f (o ∷ os)))
