-- The order of two numbers, with its evidence; and Bool helpers.
use Rattle.std.specs.Prelude.{◌≡◌, refl, Bool, true, false, not, ◌&&◌, ◌||◌, cond, ℕ, ◌<◌, ltb}
use Rattle.std.proofs.Common.{sym, true≢false, arith, ltb-true, ltb-false}

-- m < n, m ≡ n or n < m
pub data Cmp (m n : ℕ) : Type 0 where
  below : m < n → Cmp m n
  equal : m ≡ n → Cmp m n
  above : n < m → Cmp m n

unfoldable pub cmp : (m n : ℕ) → Cmp m n
cmp m n = go (ltb m n) (ltb n m) refl refl
  where
    go : (x y : Bool) → ltb m n ≡ x → ltb n m ≡ y → Cmp m n
    go true y e d = below (ltb-true m n e)
    go false true e d = above (ltb-true n m d)
    go false false e d = equal (omega (arith, ltb-false m n e, ltb-false n m d))

-- a conjunction of tests that holds, taken apart
pub and_left : (a b : Bool) → (a && b) ≡ true → a ≡ true
and_left true b e = refl
and_left false b e = e

pub and_right : (a b : Bool) → (a && b) ≡ true → b ≡ true
and_right true b e = e
and_right false b e = absurd (true≢false (sym e))

-- a test is true or false, with the equation
pub data Flag (b : Bool) : Type 0 where
  is_true : b ≡ true → Flag b
  is_false : b ≡ false → Flag b

pub flag : (b : Bool) → Flag b
flag true = is_true refl
flag false = is_false refl

pub cond-const : {A : Type 0} (b : Bool) (x : A) → cond b x x ≡ x
cond-const true x = refl
cond-const false x = refl

-- a disjunction of tests that holds, taken apart; and made
pub data Either (a b : Bool) : Type 0 where
  one : a ≡ true → Either a b
  other : b ≡ true → Either a b

pub either : (a b : Bool) → (a || b) ≡ true → Either a b
either true b e = one refl
either false b e = other e

pub or-one : (a b : Bool) → a ≡ true → (a || b) ≡ true
or-one true b e = refl
or-one false b e = absurd (true≢false (sym e))

pub or-other : (a b : Bool) → b ≡ true → (a || b) ≡ true
or-other true b e = refl
or-other false b e = e

-- of two tests neither holds; the first holds and the second does not
pub neither : (a b : Bool) → (a || b) ≡ false → (a ≡ false) × (b ≡ false)
neither true b e = absurd (true≢false e)
neither false b e = (refl, e)

pub only-first : (a b : Bool) → (not a || b) ≡ false → (a ≡ true) × (b ≡ false)
only-first true b e = (refl, e)
only-first false b e = absurd (true≢false e)
