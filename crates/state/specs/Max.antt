-- The highest value of a function over a part of a type, maxima that compute, and tuples of objects (document 01, sections 'States and value' and 'Backup').
use Rattle.std.specs.Prelude.{Bool, cond, List, [], ◌∷◌, ◌++◌, map, ℕ, zero, suc, ◌+◌, ◌<◌, max}
use Rattle.diagram.specs.Words.{up_to}

-- the highest of f 0 .. f (n - 1); 0 if there is none
unfoldable pub max_to : ℕ → (ℕ → ℕ) → ℕ
max_to zero f = 0
max_to (suc n) f = max (max_to n f) (f n)

-- c objects below n
pub data Tuple (n : ℕ) : ℕ → List ℕ → Type 0 where
  none : Tuple n 0 []
  more : {o c : ℕ} {os : List ℕ} → o < n → Tuple n c os → Tuple n (suc c) (o ∷ os)

-- the lists that f gives the members, one behind the other
abbrev pub gather : {A B : Type 0} → (A → List B) → List A → List B
gather f [] = []
gather f (a ∷ l) = f a ++ gather f l

-- the members that pass the test
abbrev pub those : {A : Type 0} → (A → Bool) → List A → List A
those p [] = []
those p (a ∷ l) = cond (p a) (a ∷ those p l) (those p l)

-- all tuples of c objects below n, lowest objects first, the first changing slowest
unfoldable pub tuples : ℕ → ℕ → List (List ℕ)
tuples n zero = [] ∷ []
tuples n (suc c) = gather (λ o. map (o ∷◌) (tuples n c)) (up_to n)

-- the highest over all tuples of c objects below n
unfoldable pub max_tuples : ℕ → ℕ → (List ℕ → ℕ) → ℕ
unfolding max_to
max_tuples n zero f = f []
max_tuples n (suc c) f = max_to n (λ o. max_tuples n c (λ os. f (o ∷ os)))

-- the highest and the sum over a list
module _ {A : Type 0} where
  unfoldable pub max_of : List A → (A → ℕ) → ℕ
  max_of [] f = 0
  max_of (a ∷ l) f = max (f a) (max_of l f)

  unfoldable pub sum_of : List A → (A → ℕ) → ℕ
  sum_of [] f = 0
  sum_of (a ∷ l) f = f a + sum_of l f
