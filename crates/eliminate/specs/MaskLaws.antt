-- Laws of sets of variables: each once and ascending; unions, intersections, one variable.
use Rattle.std.specs.Prelude.{◌≡◌, refl, Bool, true, false, not, ◌&&◌, ◌||◌, cond, [], ◌∷◌, ℕ, zero, suc, ◌+◌, ◌*◌, ◌/◌, ◌%◌, ◌^◌, ◌<◌, min, max, eqb}
use Rattle.std.proofs.Common.{◌∙◌, arith, eqb-true}
use Rattle.std.specs.Int.Bits.{bit_and, bit_or, bit_xor, differ, and_step, or_step, xor_step, shifted_half, shifted_even}
use Rattle.basics.specs.Tests.{Either, one, other, either}
use Rattle.basics.specs.Members.{mem, clash}
use Rattle.label.specs.Limits.{first_variable, variable_count, first_minimum}
use Rattle.rename.specs.Ascending.{Ascending}
use Rattle.rename.specs.AscendingLaws.{ascending-weaken, ascending-not}
use Rattle.eliminate.specs.Masks.{names_from, names_of}

-- one bit, and the others
pub names-step : (k v m : ℕ) → names_from (suc k) v m ≡ cond (eqb (m % 2) 1) (v ∷ names_from k (suc v) (m / 2)) (names_from k (suc v) (m / 2))
unfolding names_from
names-step k v m = refl

pub names-zero : (k v : ℕ) → names_from k v 0 ≡ []
unfolding names_from
names-zero zero v = refl
names-zero (suc k) v = names-zero k (suc v)

pub names-ascending : (k v m : ℕ) → Ascending v (names_from k v m)
unfolding names_from
names-ascending zero v m = tt
names-ascending (suc k) v m = go (eqb (m % 2) 1) (names-ascending k (suc v) (m / 2))
  where
    go : (b : Bool) → Ascending (suc v) (names_from k (suc v) (m / 2)) → Ascending v (cond b (v ∷ names_from k (suc v) (m / 2)) (names_from k (suc v) (m / 2)))
    go true r = (omega arith, r)
    go false r = ascending-weaken v (suc v) (names_from k (suc v) (m / 2)) (omega arith) r

-- a variable of the set is below the end
pub names-below : (k v m t : ℕ) → mem eqb t (names_from k v m) ≡ true → t < v + k
unfolding names_from
names-below zero v m t e = clash e refl
names-below (suc k) v m t e = go (eqb (m % 2) 1) e (names-below k (suc v) (m / 2) t)
  where
    inner : Either (eqb t v) (mem eqb t (names_from k (suc v) (m / 2))) → (mem eqb t (names_from k (suc v) (m / 2)) ≡ true → t < suc v + k) → t < v + suc k
    inner (one q) ih = let z = eqb-true t v q in omega arith
    inner (other q) ih = let z = ih q in omega arith

    go : (b : Bool) → mem eqb t (cond b (v ∷ names_from k (suc v) (m / 2)) (names_from k (suc v) (m / 2))) ≡ true
        → (mem eqb t (names_from k (suc v) (m / 2)) ≡ true → t < suc v + k) → t < v + suc k
    go true h ih = inner (either (eqb t v) _ h) ih
    go false h ih = let z = ih h in omega arith

-- a variable is not among those above it
names-not : (k v m t : ℕ) → eqb t v ≡ true → mem eqb t (names_from k (suc v) m) ≡ false
names-not k v m t e = let z = eqb-true t v e in ascending-not (suc v) (names_from k (suc v) m) t (names-ascending k (suc v) m) (omega arith)

-- the lowest variable and the others
mem-step : (k v m t : ℕ) → mem eqb t (names_from (suc k) v m) ≡ ((eqb (m % 2) 1 && eqb t v) || mem eqb t (names_from k (suc v) (m / 2)))
unfolding names_from
mem-step k v m t = go (eqb (m % 2) 1)
  where
    go : (b : Bool) → mem eqb t (cond b (v ∷ names_from k (suc v) (m / 2)) (names_from k (suc v) (m / 2))) ≡ ((b && eqb t v) || mem eqb t (names_from k (suc v) (m / 2)))
    go true = refl
    go false = refl

max-two : (a b : ℕ) → a < 2 → b < 2 → max a b < 2
max-two a b h i = omega arith

differ-two : (a b : ℕ) → a < 2 → b < 2 → differ a b < 2
differ-two zero b h i = i
differ-two (suc zero) zero h i = omega arith
differ-two (suc zero) (suc b) h i = omega arith
differ-two (suc (suc a)) b h i = absurd (omega arith)

or-half : (a b : ℕ) → bit_or a b / 2 ≡ bit_or (a / 2) (b / 2)
or-half a b = let e = or_step a b in let h = max-two (a % 2) (b % 2) (omega arith) (omega arith) in omega arith

or-odd : (a b : ℕ) → bit_or a b % 2 ≡ max (a % 2) (b % 2)
or-odd a b = let e = or_step a b in let h = max-two (a % 2) (b % 2) (omega arith) (omega arith) in omega arith

and-half : (a b : ℕ) → bit_and a b / 2 ≡ bit_and (a / 2) (b / 2)
and-half a b = let e = and_step a b in omega arith

and-odd : (a b : ℕ) → bit_and a b % 2 ≡ min (a % 2) (b % 2)
and-odd a b = let e = and_step a b in omega arith

-- two digits as tests
max-test : (x y : ℕ) → x < 2 → y < 2 → eqb (max x y) 1 ≡ (eqb x 1 || eqb y 1)
max-test zero zero h k = refl
max-test zero (suc zero) h k = refl
max-test (suc zero) zero h k = refl
max-test (suc zero) (suc zero) h k = refl
max-test zero (suc (suc y)) h k = absurd (omega arith)
max-test (suc zero) (suc (suc y)) h k = absurd (omega arith)
max-test (suc (suc x)) y h k = absurd (omega arith)

min-test : (x y : ℕ) → x < 2 → y < 2 → eqb (min x y) 1 ≡ (eqb x 1 && eqb y 1)
min-test zero zero h k = refl
min-test zero (suc zero) h k = refl
min-test (suc zero) zero h k = refl
min-test (suc zero) (suc zero) h k = refl
min-test zero (suc (suc y)) h k = absurd (omega arith)
min-test (suc zero) (suc (suc y)) h k = absurd (omega arith)
min-test (suc (suc x)) y h k = absurd (omega arith)

or-mix : (a b c p q : Bool) → (((a || b) && c) || (p || q)) ≡ (((a && c) || p) || ((b && c) || q))
or-mix true true true p q = refl
or-mix true false true p q = refl
or-mix false true true true q = refl
or-mix false true true false q = refl
or-mix false false true p q = refl
or-mix true true false p q = refl
or-mix true false false p q = refl
or-mix false true false p q = refl
or-mix false false false p q = refl

-- unions
pub mem-or : (k v a b t : ℕ) → mem eqb t (names_from k v (bit_or a b)) ≡ (mem eqb t (names_from k v a) || mem eqb t (names_from k v b))
unfolding names_from
mem-or zero v a b t = refl
mem-or (suc k) v a b t =
    mem-step k v (bit_or a b) t
    ∙ rw (or-odd a b, or-half a b, max-test (a % 2) (b % 2) (omega arith) (omega arith), mem-or k (suc v) (a / 2) (b / 2) t, mem-step k v a t, mem-step k v b t)
    (or-mix (eqb (a % 2) 1) (eqb (b % 2) 1) (eqb t v) (mem eqb t (names_from k (suc v) (a / 2))) (mem eqb t (names_from k (suc v) (b / 2))))

-- intersections
and-mix : (a b c p q : Bool) → (c ≡ true → (p ≡ false) × (q ≡ false)) → (((a && b) && c) || (p && q)) ≡ (((a && c) || p) && ((b && c) || q))
and-mix a b true p q h = rw ((h refl).0, (h refl).1) (go a b)
  where
    go : (a b : Bool) → (((a && b) && true) || (false && false)) ≡ (((a && true) || false) && ((b && true) || false))
    go true true = refl
    go true false = refl
    go false b = refl
and-mix true true false p q h = refl
and-mix true false false p q h = refl
and-mix false true false p q h = refl
and-mix false false false p q h = refl

pub mem-and : (k v a b t : ℕ) → mem eqb t (names_from k v (bit_and a b)) ≡ (mem eqb t (names_from k v a) && mem eqb t (names_from k v b))
unfolding names_from
mem-and zero v a b t = refl
mem-and (suc k) v a b t =
    mem-step k v (bit_and a b) t
    ∙ rw (and-odd a b, and-half a b, min-test (a % 2) (b % 2) (omega arith) (omega arith), mem-and k (suc v) (a / 2) (b / 2) t, mem-step k v a t, mem-step k v b t)
    (and-mix (eqb (a % 2) 1) (eqb (b % 2) 1) (eqb t v) (mem eqb t (names_from k (suc v) (a / 2))) (mem eqb t (names_from k (suc v) (b / 2)))
    (λ e. (names-not k v (a / 2) t e, names-not k v (b / 2) t e)))

-- what is in one of two sets only
abbrev pub apart : Bool → Bool → Bool
apart a b = cond a (not b) b

xor-half : (a b : ℕ) → bit_xor a b / 2 ≡ bit_xor (a / 2) (b / 2)
xor-half a b = let e = xor_step a b in let h = differ-two (a % 2) (b % 2) (omega arith) (omega arith) in omega arith

xor-odd : (a b : ℕ) → bit_xor a b % 2 ≡ differ (a % 2) (b % 2)
xor-odd a b = let e = xor_step a b in let h = differ-two (a % 2) (b % 2) (omega arith) (omega arith) in omega arith

differ-test : (x y : ℕ) → x < 2 → y < 2 → eqb (differ x y) 1 ≡ apart (eqb x 1) (eqb y 1)
differ-test zero zero h k = refl
differ-test zero (suc zero) h k = refl
differ-test (suc zero) zero h k = refl
differ-test (suc zero) (suc zero) h k = refl
differ-test zero (suc (suc y)) h k = absurd (omega arith)
differ-test (suc zero) (suc (suc y)) h k = absurd (omega arith)
differ-test (suc (suc x)) y h k = absurd (omega arith)

apart-mix : (a b c p q : Bool) → (c ≡ true → (p ≡ false) × (q ≡ false)) → ((apart a b && c) || apart p q) ≡ apart ((a && c) || p) ((b && c) || q)
apart-mix a b true p q h = rw ((h refl).0, (h refl).1) (go a b)
  where
    go : (a b : Bool) → ((apart a b && true) || apart false false) ≡ apart ((a && true) || false) ((b && true) || false)
    go true true = refl
    go true false = refl
    go false true = refl
    go false false = refl
apart-mix true true false p q h = refl
apart-mix true false false p q h = refl
apart-mix false true false p q h = refl
apart-mix false false false p q h = refl

pub mem-xor : (k v a b t : ℕ) → mem eqb t (names_from k v (bit_xor a b)) ≡ apart (mem eqb t (names_from k v a)) (mem eqb t (names_from k v b))
unfolding names_from
mem-xor zero v a b t = refl
mem-xor (suc k) v a b t =
    mem-step k v (bit_xor a b) t
    ∙ rw (xor-odd a b, xor-half a b, differ-test (a % 2) (b % 2) (omega arith) (omega arith), mem-xor k (suc v) (a / 2) (b / 2) t, mem-step k v a t, mem-step k v b t)
    (apart-mix (eqb (a % 2) 1) (eqb (b % 2) 1) (eqb t v) (mem eqb t (names_from k (suc v) (a / 2))) (mem eqb t (names_from k (suc v) (b / 2)))
    (λ e. (names-not k v (a / 2) t e, names-not k v (b / 2) t e)))

-- one variable
pub mem-one : (k v i t : ℕ) → i < k → mem eqb t (names_from k v (1 * 2 ^ i)) ≡ eqb t (v + i)
mem-one zero v i t h = absurd (omega arith)
mem-one (suc k) v zero t h =
    let e : v + 0 ≡ v = omega arith in
    mem-step k v 1 t ∙ rw (names-zero k (suc v), e) (go (eqb t v))
  where
    go : (b : Bool) → (b || false) ≡ b
    go true = refl
    go false = refl
mem-one (suc k) v (suc i) t h =
    let e : v + suc i ≡ suc v + i = omega arith in
    mem-step k v (1 * 2 ^ suc i) t ∙ rw (shifted_even 1 i, shifted_half 1 i, mem-one k (suc v) i t (omega arith), e)

-- ===== The same for whole sets =====
pub of_zero : names_of 0 ≡ []
unfolding names_of
of_zero = names-zero variable_count first_variable

pub of-ascending : (m : ℕ) → Ascending first_variable (names_of m)
unfolding names_of
of-ascending m = names-ascending variable_count first_variable m

pub of-below : (m t : ℕ) → mem eqb t (names_of m) ≡ true → t < first_minimum
unfolding names_of
of-below m t e = let z = names-below variable_count first_variable m t e in omega arith

pub of_or : (a b t : ℕ) → mem eqb t (names_of (bit_or a b)) ≡ (mem eqb t (names_of a) || mem eqb t (names_of b))
unfolding names_of
of_or a b t = mem-or variable_count first_variable a b t

pub of_and : (a b t : ℕ) → mem eqb t (names_of (bit_and a b)) ≡ (mem eqb t (names_of a) && mem eqb t (names_of b))
unfolding names_of
of_and a b t = mem-and variable_count first_variable a b t

pub of_xor : (a b t : ℕ) → mem eqb t (names_of (bit_xor a b)) ≡ apart (mem eqb t (names_of a)) (mem eqb t (names_of b))
unfolding names_of
of_xor a b t = mem-xor variable_count first_variable a b t

pub of_one : (i t : ℕ) → i < variable_count → mem eqb t (names_of (1 * 2 ^ i)) ≡ eqb t (first_variable + i)
unfolding names_of
of_one i t h = mem-one variable_count first_variable i t h
