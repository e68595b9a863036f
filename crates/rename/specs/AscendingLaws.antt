-- Laws of ascending lists: no repeats, one list for one set, and each number's rank is its place.
use Rattle.std.specs.Prelude.{◌≡◌, refl, true, false, ◌||◌, cond, List, [], ◌∷◌, map, ℕ, zero, suc, ◌+◌, ◌≤◌, ◌<◌, length, get_or, eqb, ltb}
use Rattle.std.proofs.Common.{ap, sym, arith, eqb-true, eq-eqb, lt-ltb, le-ltb}
use Rattle.basics.specs.Tests.{Flag, is_true, is_false, flag, Either, one, other, either, or-one, or-other, Cmp, below, equal, above, cmp}
use Rattle.basics.specs.Members.{mem, NoDup, Within, clash}
use Rattle.label.specs.Renamings.{rank}
use Rattle.rename.specs.Ascending.{All, Ascending, consecutive}

pub all-weaken : (P R : ℕ → Type 0) (xs : List ℕ) → ((x : ℕ) → P x → R x) → All P xs → All R xs
all-weaken P R [] h a = tt
all-weaken P R (x ∷ xs) h a = (h x a.0, all-weaken P R xs h a.1)

pub all-mem : (xs : List ℕ) → All (λ x. mem eqb x xs ≡ true) xs
all-mem [] = tt
all-mem (x ∷ xs) = (or-one _ _ (eq-eqb x x refl), all-weaken _ _ xs (λ y e. or-other (eqb y x) _ e) (all-mem xs))

pub mem-all : (P : ℕ → Type 0) (xs : List ℕ) (x : ℕ) → All P xs → mem eqb x xs ≡ true → P x
mem-all P [] x a e = clash e refl
mem-all P (y ∷ ys) x a e = go (either (eqb x y) _ e) (mem-all P ys x a.1)
  where
    go : Either (eqb x y) (mem eqb x ys) → (mem eqb x ys ≡ true → P x) → P x
    go (one q) ih = rw (eqb-true x y q) a.0
    go (other q) ih = ih q

-- two maps that agree on a list
pub map-agree : (f g : ℕ → ℕ) (xs : List ℕ) → All (λ x. f x ≡ g x) xs → map f xs ≡ map g xs
map-agree f g [] a = refl
map-agree f g (x ∷ xs) a = rw (a.0, map-agree f g xs a.1)

pub mem-map : (f : ℕ → ℕ) (x : ℕ) (xs : List ℕ) → mem eqb x xs ≡ true → mem eqb (f x) (map f xs) ≡ true
mem-map f x [] e = clash e refl
mem-map f x (y ∷ ys) e = go (either (eqb x y) _ e) (mem-map f x ys)
  where
    go : Either (eqb x y) (mem eqb x ys) → (mem eqb x ys ≡ true → mem eqb (f x) (map f ys) ≡ true) → (eqb (f x) (f y) || mem eqb (f x) (map f ys)) ≡ true
    go (one q) ih = or-one _ _ (eq-eqb (f x) (f y) (ap f (eqb-true x y q)))
    go (other q) ih = or-other (eqb (f x) (f y)) _ (ih q)

-- a number that f gives for one of xs
pub record Source (f : ℕ → ℕ) (xs : List ℕ) (y : ℕ) : Type 0 where
  pub source : ℕ
  pub inside : mem eqb source xs ≡ true
  pub gives : f source ≡ y

pub map-mem : (f : ℕ → ℕ) (y : ℕ) (xs : List ℕ) → mem eqb y (map f xs) ≡ true → Source f xs y
map-mem f y [] e = clash e refl
map-mem f y (x ∷ xs) e = go (either (eqb y (f x)) _ e) (map-mem f y xs)
  where
    go : Either (eqb y (f x)) (mem eqb y (map f xs)) → (mem eqb y (map f xs) ≡ true → Source f xs y) → Source f (x ∷ xs) y
    go (one q) ih = record { source = x; inside = or-one _ _ (eq-eqb x x refl); gives = sym (eqb-true y (f x) q) }
    go (other q) ih = let s = ih q in record { source = s.source; inside = or-other (eqb s.source x) _ s.inside; gives = s.gives }

pub mem-place : (xs : List ℕ) (k : ℕ) → k < length xs → mem eqb (get_or xs k 0) xs ≡ true
mem-place [] k h = absurd (omega arith)
mem-place (x ∷ xs) zero h = or-one _ _ (eq-eqb x x refl)
mem-place (x ∷ xs) (suc k) h = or-other (eqb (get_or xs k 0) x) _ (mem-place xs k (omega arith))

pub ascending-weaken : (m n : ℕ) (xs : List ℕ) → m ≤ n → Ascending n xs → Ascending m xs
ascending-weaken m n [] h a = tt
ascending-weaken m n (x ∷ xs) h a = (omega arith, a.1)

pub ascending-above : (n : ℕ) (xs : List ℕ) (x : ℕ) → Ascending n xs → mem eqb x xs ≡ true → n ≤ x
ascending-above n [] x a e = clash e refl
ascending-above n (y ∷ ys) x a e = go (either (eqb x y) _ e) (ascending-above (suc y) ys x a.1)
  where
    go : Either (eqb x y) (mem eqb x ys) → (mem eqb x ys ≡ true → suc y ≤ x) → n ≤ x
    go (one q) ih = omega (arith, eqb-true x y q)
    go (other q) ih = omega (arith, ih q)

pub ascending-not : (n : ℕ) (xs : List ℕ) (x : ℕ) → Ascending n xs → x < n → mem eqb x xs ≡ false
ascending-not n xs x a h = go (flag (mem eqb x xs))
  where
    go : Flag (mem eqb x xs) → mem eqb x xs ≡ false
    go (is_true e) = absurd (omega (arith, ascending-above n xs x a e))
    go (is_false e) = e

pub ascending-nodup : (n : ℕ) (xs : List ℕ) → Ascending n xs → NoDup eqb xs
ascending-nodup n [] a = tt
ascending-nodup n (x ∷ xs) a = (ascending-not (suc x) xs x a.1 (omega arith), ascending-nodup (suc x) xs a.1)

-- the first numbers of two ascending lists of the same members are equal
first-least : (m x y : ℕ) (xs ys : List ℕ) → Ascending m (y ∷ ys) → Within eqb (x ∷ xs) (y ∷ ys) → y ≤ x
first-least m x y xs ys a w = go (either (eqb x y) _ (w x (or-one _ _ (eq-eqb x x refl))))
  where
    go : Either (eqb x y) (mem eqb x ys) → y ≤ x
    go (one q) = omega (arith, eqb-true x y q)
    go (other q) = omega (arith, ascending-above (suc y) ys x a.1 q)

rest-within : (x y : ℕ) (xs ys : List ℕ) → x ≡ y → Ascending (suc x) xs → Within eqb (x ∷ xs) (y ∷ ys) → Within eqb xs ys
rest-within x y xs ys s a w z e = go (either (eqb z y) _ (w z (or-other (eqb z x) _ e)))
  where
    go : Either (eqb z y) (mem eqb z ys) → mem eqb z ys ≡ true
    go (one q) = absurd (omega (arith, eqb-true z y q, ascending-above (suc x) xs z a e))
    go (other q) = q

-- one ascending list for one set
pub ascending-one : (n m : ℕ) (xs ys : List ℕ) → Ascending n xs → Ascending m ys → Within eqb xs ys → Within eqb ys xs → xs ≡ ys
ascending-one n m [] [] a b v w = refl
ascending-one n m [] (y ∷ ys) a b v w = clash (w y (or-one _ _ (eq-eqb y y refl))) refl
ascending-one n m (x ∷ xs) [] a b v w = clash (v x (or-one _ _ (eq-eqb x x refl))) refl
ascending-one n m (x ∷ xs) (y ∷ ys) a b v w =
    let h = first-least m x y xs ys b v in
    let k = first-least n y x ys xs a w in
    let e : x ≡ y = omega arith in
    let f : y ≡ x = omega arith in
    let r = ascending-one (suc x) (suc y) xs ys a.1 b.1 (rest-within x y xs ys e a.1 v) (rest-within y x ys xs f b.1 w) in
    cc

pub rank-none : (n : ℕ) (xs : List ℕ) (u : ℕ) → Ascending n xs → u ≤ n → rank xs u ≡ 0
rank-none n [] u a h = refl
rank-none n (x ∷ xs) u a h = rw (le-ltb x u (omega arith), rank-none (suc x) xs u a.1 (omega arith))

-- the rank of a member is its place
pub rank-place : (n : ℕ) (xs : List ℕ) (k : ℕ) → Ascending n xs → k < length xs → rank xs (get_or xs k 0) ≡ k
rank-place n [] k a h = absurd (omega arith)
rank-place n (x ∷ xs) zero a h = rw (le-ltb x x (omega arith), rank-none (suc x) xs x a.1 (omega arith))
rank-place n (x ∷ xs) (suc k) a h =
    let b = ascending-above (suc x) xs (get_or xs k 0) a.1 (mem-place xs k (omega arith)) in
    rw (lt-ltb x (get_or xs k 0) b, rank-place (suc x) xs k a.1 (omega arith)) (omega arith)

pub place-rank : (n : ℕ) (xs : List ℕ) (u : ℕ) → Ascending n xs → mem eqb u xs ≡ true → get_or xs (rank xs u) 0 ≡ u
place-rank n [] u a e = clash e refl
place-rank n (x ∷ xs) u a e = go (either (eqb u x) _ e) (place-rank (suc x) xs u a.1)
  where
    go : Either (eqb u x) (mem eqb u xs) → (mem eqb u xs ≡ true → get_or xs (rank xs u) 0 ≡ u) → get_or (x ∷ xs) (cond (ltb x u) 1 0 + rank xs u) 0 ≡ u
    go (one q) ih =
        let z = eqb-true u x q in
        rw (le-ltb x u (omega arith), rank-none (suc x) xs u a.1 (omega arith)) (sym z)
    go (other q) ih =
        let b = ascending-above (suc x) xs u a.1 q in
        let r : 1 + rank xs u ≡ suc (rank xs u) = omega arith in
        rw (lt-ltb x u b, r) (ih q)

pub consecutive-ascending : (m n : ℕ) → Ascending m (consecutive m n)
consecutive-ascending m zero = tt
consecutive-ascending m (suc n) = (omega arith, consecutive-ascending (suc m) n)

pub length-consecutive : (m n : ℕ) → length (consecutive m n) ≡ n
length-consecutive m zero = refl
length-consecutive m (suc n) = ap suc (length-consecutive (suc m) n)

pub in-consecutive : (m n t : ℕ) → mem eqb t (consecutive m n) ≡ true → (m ≤ t) × (t < m + n)
in-consecutive m zero t e = clash e refl
in-consecutive m (suc n) t e = go (either (eqb t m) _ e) (in-consecutive (suc m) n t)
  where
    go : Either (eqb t m) (mem eqb t (consecutive (suc m) n)) → (mem eqb t (consecutive (suc m) n) ≡ true → (suc m ≤ t) × (t < suc m + n)) → (m ≤ t) × (t < m + suc n)
    go (one q) ih = omega (arith, eqb-true t m q)
    go (other q) ih = let h = ih q in omega arith

pub consecutive-in : (m n t : ℕ) → m ≤ t → t < m + n → mem eqb t (consecutive m n) ≡ true
consecutive-in m zero t h k = absurd (omega arith)
consecutive-in m (suc n) t h k = go (cmp m t) (consecutive-in (suc m) n t)
  where
    go : Cmp m t → (suc m ≤ t → t < suc m + n → mem eqb t (consecutive (suc m) n) ≡ true) → (eqb t m || mem eqb t (consecutive (suc m) n)) ≡ true
    go (below q) ih = or-other (eqb t m) _ (ih q (omega arith))
    go (equal q) ih = or-one _ _ (eq-eqb t m (sym q))
    go (above q) ih = absurd (omega arith)

-- the rank of a number among consecutive ones
pub rank-consecutive : (m n t : ℕ) → m ≤ t → t ≤ m + n → m + rank (consecutive m n) t ≡ t
rank-consecutive m zero t h k = omega arith
rank-consecutive m (suc n) t h k = go (cmp m t) (rank-consecutive (suc m) n t)
  where
    go : Cmp m t → (suc m ≤ t → t ≤ suc m + n → suc m + rank (consecutive (suc m) n) t ≡ t) → m + (cond (ltb m t) 1 0 + rank (consecutive (suc m) n) t) ≡ t
    go (below q) ih = rw (lt-ltb m t q) (omega (arith, ih q (omega arith)))
    go (equal q) ih = rw (le-ltb m t (omega arith)) (omega (arith, rank-none (suc m) (consecutive (suc m) n) t (consecutive-ascending (suc m) n) (omega arith)))
    go (above q) ih = absurd (omega arith)

pub rank_most : (xs : List ℕ) (t : ℕ) → rank xs t ≤ length xs
rank_most [] t = omega arith
rank_most (x ∷ xs) t = go (flag (ltb x t)) (rank_most xs t)
  where
    go : Flag (ltb x t) → rank xs t ≤ length xs → cond (ltb x t) 1 0 + rank xs t ≤ suc (length xs)
    go (is_true p) ih = rw p (omega arith)
    go (is_false p) ih = rw p (omega arith)
