-- The lowest value of a function over a part of a type, the highest of lowest values, and minima that compute (document 02, L12).
use Rattle.std.specs.Prelude.{◌≡◌, ℕ, zero, suc, ◌≤◌, min}

-- x is the lowest value of f on P: attained, and nothing below
pub record IsMin {X : Type 0} (P : X → Type 0) (f : X → ℕ) (x : ℕ) : Type 0 where
  pub point : X
  pub inside : P point
  pub value : f point ≡ x
  pub bound : (a : X) → P a → x ≤ f a

-- x is the highest, over the choices in P, of the lowest value of f on the answers that Q gives a choice: one choice has it as its lowest value,
-- and every choice has an answer where f is at most x
pub record IsMaxMin {X : Type 0} (P : X → Type 0) (Q : X → X → Type 0) (f : X → ℕ) (x : ℕ) : Type 0 where
  pub point : X
  pub inside : P point
  pub lowest : IsMin (Q point) f x
  pub bound : (a : X) → P a → (b : X) × Q a b × (f b ≤ x)

-- the lowest of f 0 .. f (n - 1); 0 if there is none
unfoldable pub min_to : ℕ → (ℕ → ℕ) → ℕ
min_to zero f = 0
min_to (suc zero) f = f 0
min_to (suc (suc n)) f = min (min_to (suc n) f) (f (suc n))
