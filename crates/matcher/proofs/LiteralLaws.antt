-- Literals by number: which are among those of the first path, which have one predicate and one sign.
use mathlib.Core.Path.{◌≡◌, refl, sym, ap, subst, ◌∙◌}
use mathlib.Core.Bool.{true, false}
use mathlib.Core.List.{List, [], ◌∷◌, map, Memᴰ}
use Prim.Native.Nat.{ℕ, zero, suc, ◌-◌, ◌/◌, ◌%◌, ◌<◌}
use native.Mathlib.Omega.{arith}
use lib.ListN.{length, get_or, drop}
use lib.Seq.{get_or-drop}
use lib.Dec.{eqb}
use borrow.Author.Tests.{eqb-true, eqb-false, eq-eqb}
use Rattle.basics.specs.Tests.{and_left, and_right, Flag, is_true, is_false, flag}
use Rattle.basics.specs.Members.{clash}
use Rattle.label.specs.Limits.{first_minimum}
use Rattle.label.specs.Labels.{predicate_of}
use Rattle.paths.specs.Paths.{Literal}
use Rattle.paths.specs.Inner.{literal_at, literals_in}
use Rattle.matcher.specs.Search.{is_equality, alike, into_count, into_at}

pub mem-at : {A : Type 0} (f : ℕ → A) (xs : List ℕ) (i : ℕ) → i < length xs → Memᴰ (f (get_or xs i 0)) (map f xs)
mem-at f [] i h = absurd (omega arith)
mem-at f (x ∷ xs) zero h = Memᴰ.head refl
mem-at f (x ∷ xs) (suc i) h = Memᴰ.tail (mem-at f xs i (omega arith))

pub at_mem : {A : Type 0} (f : ℕ → A) (xs : List ℕ) (a : A) → Memᴰ a (map f xs) → (i : ℕ) × (i < length xs) × (a ≡ f (get_or xs i 0))
at_mem {A = A} f [] a x' = elim x' [ ]
at_mem f (x ∷ xs) a (Memᴰ.head e) = (0, omega arith, e)
at_mem f (x ∷ xs) a (Memᴰ.tail m) = let r = at_mem f xs a m in (suc r.0, omega (arith, r.1), r.2)

drop-length : (n : ℕ) (xs : List ℕ) → length (drop n xs) ≡ length xs - n
drop-length zero xs = omega arith
drop-length (suc n) [] = omega arith
drop-length (suc n) (x ∷ xs) = omega (arith, drop-length n xs)

pub into-mem : (into : List ℕ) (i : ℕ) → i < into_count into → Memᴰ (literal_at (into_at into i)) (literals_in (drop first_minimum into))
unfolding literals_in
into-mem into i h =
    subst (λ (y : ℕ). Memᴰ (literal_at y) (map literal_at (drop first_minimum into))) (get_or-drop first_minimum into i 0)
    (mem-at literal_at (drop first_minimum into) i (omega (arith, drop-length first_minimum into)))

pub mem-into : (into : List ℕ) (m : Literal) → Memᴰ m (literals_in (drop first_minimum into)) → (i : ℕ) × (i < into_count into) × (m ≡ literal_at (into_at into i))
unfolding literals_in
mem-into into m w =
    let r = at_mem literal_at (drop first_minimum into) m w in
    (r.0, omega (arith, r.1, drop-length first_minimum into), r.2 ∙ ap literal_at (get_or-drop first_minimum into r.0 0))

-- one predicate and one sign
pub alike_is : (x y : ℕ) → alike x y ≡ true → (predicate_of (x / 2) ≡ predicate_of (y / 2)) × (eqb (x % 2) 1 ≡ eqb (y % 2) 1)
unfolding alike
alike_is x y e =
    let p = eqb-true (predicate_of (x / 2)) (predicate_of (y / 2)) (and_left (eqb (predicate_of (x / 2)) (predicate_of (y / 2))) _ e) in
    let q = eqb-true (x % 2) (y % 2) (and_right (eqb (predicate_of (x / 2)) (predicate_of (y / 2))) _ e) in
    (p, ap (λ (i : ℕ). eqb i 1) q)

pub sign_same : (a b : ℕ) → a < 2 → b < 2 → eqb a 1 ≡ eqb b 1 → a ≡ b
sign_same a b h k e = go (flag (eqb a 1)) (flag (eqb b 1))
  where
    go : Flag (eqb a 1) → Flag (eqb b 1) → a ≡ b
    go (is_true p) (is_true q) = eqb-true a 1 p ∙ sym (eqb-true b 1 q)
    go (is_true p) (is_false q) = clash p (e ∙ q)
    go (is_false p) (is_true q) = clash q (sym e ∙ p)
    go (is_false p) (is_false q) = let n = eqb-false a 1 p in let m = eqb-false b 1 q in omega arith

pub is-alike : (x y : ℕ) → predicate_of (x / 2) ≡ predicate_of (y / 2) → eqb (x % 2) 1 ≡ eqb (y % 2) 1 → alike x y ≡ true
unfolding alike
is-alike x y p q =
    rw (eq-eqb (predicate_of (x / 2)) (predicate_of (y / 2)) p, eq-eqb (x % 2) (y % 2) (sign_same (x % 2) (y % 2) (omega arith) (omega arith) q))

-- a literal's number is told by its label and sign
pub number_same : (x y : ℕ) → x / 2 ≡ y / 2 → eqb (x % 2) 1 ≡ eqb (y % 2) 1 → x ≡ y
number_same x y p q = let s = sign_same (x % 2) (y % 2) (omega arith) (omega arith) q in omega arith

pub predicate-zero : (x : ℕ) → is_equality x ≡ true → predicate_of (x / 2) ≡ 0
unfolding is_equality
predicate-zero x h = eqb-true (predicate_of (x / 2)) 0 h

pub predicate-more : (x : ℕ) → is_equality x ≡ false → 0 < predicate_of (x / 2)
unfolding is_equality
predicate-more x h = let n = eqb-false (predicate_of (x / 2)) 0 h in omega arith

pub zero-predicate : (x : ℕ) → predicate_of (x / 2) ≡ 0 → is_equality x ≡ true
unfolding is_equality
zero-predicate x h = eq-eqb (predicate_of (x / 2)) 0 h
