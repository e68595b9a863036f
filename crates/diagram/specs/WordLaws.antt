-- Laws of words: equal rows, the numbers 0 .. n - 1, and the walk that finishes rows, which only adds to them.
use Rattle.std.specs.Prelude.{◌≡◌, refl, ◌≢◌, Bool, true, false, ◌||◌, List, [], ◌∷◌, ◌++◌, map, ℕ, zero, suc, ◌≤◌, ◌<◌, length, get_or, take, eqb}
use Rattle.std.proofs.Common.{ap, sym, ◌∙◌, arith, length-append, take_all, eqb-true, eq-eqb, ne_eqb}
use Rattle.std.proofs.Math.ListN.{get_or-append}
use Rattle.std.proofs.lemmas.List.{take-append-le, get_or_at}
use Rattle.std.proofs.lemmas.Bool.{eqb-false}
use Rattle.basics.specs.Tests.{and_left, and_right, Flag, is_true, is_false, flag, Cmp, cmp, below, equal, above, or-one, or-other}
use Rattle.basics.specs.Members.{IsTest, mem, mem-append, clash}
use Rattle.basics.specs.Prefix.{Prefix, prefix_refl, prefix-snoc, prefix-append, prefix_trans, mem-prefix}
use Rattle.label.specs.Limits.{leaf_mark}
use Rattle.diagram.specs.Words.{label_at, high_at, low_at, equal_rows, finish, up_to, every_below, equal_lists}

pub number-test : IsTest eqb
number-test = record { sound = λ a b e. eqb-true a b e; complete = λ a. eq-eqb a a refl }

-- rows are equal if their three words are
pub equal-rows : (ws : List ℕ) (i j : ℕ) → label_at ws i ≡ label_at ws j → high_at ws i ≡ high_at ws j → low_at ws i ≡ low_at ws j
    → equal_rows ws i j ≡ true
unfolding equal_rows
equal-rows ws i j p q r =
    rw (eq-eqb (label_at ws i) (label_at ws j) p, eq-eqb (high_at ws i) (high_at ws j) q, eq-eqb (low_at ws i) (low_at ws j) r)

pub rows-equal : (ws : List ℕ) (i j : ℕ) → equal_rows ws i j ≡ true
    → (label_at ws i ≡ label_at ws j) × (high_at ws i ≡ high_at ws j) × (low_at ws i ≡ low_at ws j)
unfolding equal_rows
rows-equal ws i j e =
    let r = and_right (eqb (label_at ws i) (label_at ws j)) _ e in (
      eqb-true _ _ (and_left (eqb (label_at ws i) (label_at ws j)) _ e),
      eqb-true _ _ (and_left (eqb (high_at ws i) (high_at ws j)) _ r),
      eqb-true _ _ (and_right (eqb (high_at ws i) (high_at ws j)) _ r),
    )

pub differ-rows : (ws : List ℕ) (i j : ℕ) → (label_at ws i ≡ label_at ws j → high_at ws i ≡ high_at ws j → low_at ws i ≡ low_at ws j → ⊥)
    → equal_rows ws i j ≡ false
differ-rows ws i j h = go (flag (equal_rows ws i j))
  where
    go : Flag (equal_rows ws i j) → equal_rows ws i j ≡ false
    go (is_true e) = let z = rows-equal ws i j e in absurd (h z.0 z.1 z.2)
    go (is_false e) = e

pub rows-differ : (ws : List ℕ) (i j : ℕ) → equal_rows ws i j ≡ false
    → label_at ws i ≡ label_at ws j → high_at ws i ≡ high_at ws j → low_at ws i ≡ low_at ws j → ⊥
rows-differ ws i j e p q r = clash (equal-rows ws i j p q r) e

-- a test of every number below n
pub every-below : (n : ℕ) (p : ℕ → Bool) → ((k : ℕ) → k < n → p k ≡ true) → every_below n p ≡ true
every-below zero p h = refl
every-below (suc n) p h = rw (every-below n p (λ k l. h k (omega arith)), h n (omega arith))

pub below-every : (n : ℕ) (p : ℕ → Bool) (k : ℕ) → every_below n p ≡ true → k < n → p k ≡ true
below-every zero p k e h = absurd (omega arith)
below-every (suc n) p k e h = go (cmp k n) (below-every n p k (and_left (every_below n p) _ e))
  where
    go : Cmp k n → (k < n → p k ≡ true) → p k ≡ true
    go (below q) ih = ih q
    go (equal q) ih = rw q (and_right (every_below n p) _ e)
    go (above q) ih = absurd (omega arith)

pub lists-equal : (xs ys : List ℕ) → equal_lists xs ys ≡ true → xs ≡ ys
lists-equal [] [] e = refl
lists-equal [] (y ∷ ys) e = clash e refl
lists-equal (x ∷ xs) [] e = clash e refl
lists-equal (x ∷ xs) (y ∷ ys) e =
    let p = eqb-true x y (and_left (eqb x y) _ e) in
    let q = lists-equal xs ys (and_right (eqb x y) _ e) in
    cc

pub equal-lists : (xs : List ℕ) → equal_lists xs xs ≡ true
equal-lists [] = refl
equal-lists (x ∷ xs) = rw (eq-eqb x x refl, equal-lists xs)

-- numbers below m
abbrev pub AllBelow : ℕ → List ℕ → Type 0
AllBelow m [] = Unit {0}
AllBelow m (x ∷ xs) = (x < m) × AllBelow m xs

pub below-snoc : (m : ℕ) (xs : List ℕ) (x : ℕ) → AllBelow m xs → x < m → AllBelow m (xs ++ (x ∷ []))
below-snoc m [] x a h = (h, tt)
below-snoc m (y ∷ ys) x a h = (a.0, below-snoc m ys x a.1 h)

-- 0, 1, .., n - 1
pub below-up_to : (m n : ℕ) → n ≤ m → AllBelow m (up_to n)
below-up_to m zero h = tt
below-up_to m (suc n) h = below-snoc m (up_to n) n (below-up_to m n (omega arith)) (omega arith)

pub length-up_to : (n : ℕ) → length (up_to n) ≡ n
length-up_to zero = refl
length-up_to (suc n) = omega (arith, length-append (up_to n) (n ∷ []), length-up_to n)

pub mem-up_to : (k n : ℕ) → k < n → mem eqb k (up_to n) ≡ true
mem-up_to k zero h = absurd (omega arith)
mem-up_to k (suc n) h = rw (mem-append eqb k (up_to n) (n ∷ [])) (go (cmp k n) (mem-up_to k n))
  where
    go : Cmp k n → (k < n → mem eqb k (up_to n) ≡ true) → (mem eqb k (up_to n) || (eqb k n || false)) ≡ true
    go (below q) ih = or-one _ _ (ih q)
    go (equal q) ih = or-other (mem eqb k (up_to n)) _ (or-one _ _ (eq-eqb k n q))
    go (above q) ih = absurd (omega arith)

pub not-up_to : (k n : ℕ) → n ≤ k → mem eqb k (up_to n) ≡ false
not-up_to k zero h = refl
not-up_to k (suc n) h = rw (mem-append eqb k (up_to n) (n ∷ []), not-up_to k n (omega arith), ne_eqb k n (omega arith))

pub in-up_to : (k n : ℕ) → mem eqb k (up_to n) ≡ true → k < n
in-up_to k n e = go (cmp k n)
  where
    go : Cmp k n → k < n
    go (below q) = q
    go (equal q) = clash e (not-up_to k n (omega arith))
    go (above q) = clash e (not-up_to k n (omega arith))

pub take-up_to : (k m : ℕ) → k ≤ m → take k (up_to m) ≡ up_to k
take-up_to k zero h = let e : k ≡ 0 = omega arith in rw e
take-up_to k (suc m) h = go (cmp k (suc m)) (take-up_to k m)
  where
    go : Cmp k (suc m) → (k ≤ m → take k (up_to m) ≡ up_to k) → take k (up_to m ++ (m ∷ [])) ≡ up_to k
    go (below q) ih = take-append-le k (up_to m) (m ∷ []) (omega (arith, length-up_to m)) ∙ ih (omega arith)
    go (equal q) ih = rw q (take_all (suc m) (up_to m ++ (m ∷ [])) (omega (arith, length-up_to (suc m))))
    go (above q) ih = absurd (omega arith)

pub get_d-up_to : (m k : ℕ) → k < m → get_or (up_to m) k 0 ≡ k
get_d-up_to zero k h = absurd (omega arith)
get_d-up_to (suc m) k h = go (cmp k m) (get_d-up_to m k)
  where
    go : Cmp k m → (k < m → get_or (up_to m) k 0 ≡ k) → get_or (up_to m ++ (m ∷ [])) k 0 ≡ k
    go (below q) ih = get_or-append (up_to m) (m ∷ []) 0 k (omega (arith, length-up_to m)) ∙ ih q
    go (equal q) ih = get_or_at (up_to m) m [] 0 k (length-up_to m ∙ sym q) ∙ sym q
    go (above q) ih = absurd (omega arith)

pub get_d_map : {A B : Type 0} (g : A → B) (xs : List A) (k : ℕ) (a : A) (b : B) → k < length xs → get_or (map g xs) k b ≡ g (get_or xs k a)
get_d_map g [] k a b h = absurd (omega arith)
get_d_map g (x ∷ xs) zero a b h = refl
get_d_map g (x ∷ xs) (suc k) a b h = get_d_map g xs k a b (omega arith)

pub map_snoc : {A : Type 0} (g : ℕ → A) (xs : List ℕ) (x : ℕ) → map g (xs ++ (x ∷ [])) ≡ map g xs ++ (g x ∷ [])
map_snoc g [] x = refl
map_snoc g (y ∷ ys) x = ap (◌∷◌ (g y)) (map_snoc g ys x)

-- the laws of `finish`: nothing else unfolds it
pub finish-old : (ws : List ℕ) (n i : ℕ) (done : List ℕ) → mem eqb i done ≡ true → finish ws n i done ≡ done
unfolding finish
finish-old ws zero i done e = refl
finish-old ws (suc n) i done e = rw (e, finish)

pub finish-leaf : (ws : List ℕ) (n i : ℕ) (done : List ℕ) → mem eqb i done ≡ false → label_at ws i ≡ leaf_mark
    → finish ws (suc n) i done ≡ done ++ (i ∷ [])
unfolding finish
finish-leaf ws n i done e h = rw (e, eq-eqb (label_at ws i) leaf_mark h, finish)

pub finish-branch : (ws : List ℕ) (n i : ℕ) (done : List ℕ) → mem eqb i done ≡ false → label_at ws i ≢ leaf_mark
    → finish ws (suc n) i done ≡ finish ws n (low_at ws i) (finish ws n (high_at ws i) done) ++ (i ∷ [])
unfolding finish
finish-branch ws n i done e h = rw (e, ne_eqb (label_at ws i) leaf_mark h, finish)

-- a walk only adds
pub grows : (ws : List ℕ) (n i : ℕ) (done : List ℕ) → Prefix done (finish ws n i done)
unfolding finish
grows ws zero i done = prefix_refl done
grows ws (suc n) i done = go (flag (mem eqb i done)) (flag (eqb (label_at ws i) leaf_mark))
    (prefix_trans (grows ws n (high_at ws i) done) (grows ws n (low_at ws i) (finish ws n (high_at ws i) done)))
  where
    go : Flag (mem eqb i done) → Flag (eqb (label_at ws i) leaf_mark) → Prefix done (finish ws n (low_at ws i) (finish ws n (high_at ws i) done))
        → Prefix done (finish ws (suc n) i done)
    go (is_true e) x g = rw (finish-old ws (suc n) i done e) (prefix_refl done)
    go (is_false e) (is_true q) g = rw (finish-leaf ws n i done e (eqb-true _ _ q)) (prefix-snoc done i)
    go (is_false e) (is_false q) g = rw (finish-branch ws n i done e (eqb-false _ _ q)) (prefix-append (i ∷ []) g)

pub finish-keeps : (ws : List ℕ) (n i : ℕ) (done : List ℕ) (x : ℕ) → mem eqb x done ≡ true → mem eqb x (finish ws n i done) ≡ true
finish-keeps ws n i done x h = mem-prefix eqb x (grows ws n i done) h
