-- Lists without repeats, by a Bool test of equality: membership, nub, counts.
use Rattle.std.specs.Prelude.{◌≡◌, Bool, true, false, ◌||◌, suc, ◌+◌, ◌≤◌, length}
use Rattle.std.proofs.Math.Path.{refl}
use Rattle.std.proofs.Common.{ap, sym, ◌∙◌, true≢false, zero-le, arith}
use Rattle.std.proofs.Math.Bool.{or-false, or-true, or_assoc}
use mathlib.Core.List.{List, [], ◌∷◌, ◌++◌}
use Rattle.basics.specs.Tests.{Flag, is_true, is_false, flag, Either, one, other, either, or-one, or-other}

-- a test that tells equal things from others
pub record IsTest {A : Type 0} (eq : A → A → Bool) : Type 0 where
  pub sound : (a b : A) → eq a b ≡ true → a ≡ b
  pub complete : (a : A) → eq a a ≡ true

module _ {A : Type 0} (eq : A → A → Bool) where
  abbrev pub mem : A → List A → Bool
  mem x [] = false
  mem x (y ∷ ys) = eq x y || mem x ys

  -- each element once: of equal ones the last
  unfoldable pub nub : List A → List A
  nub [] = []
  nub (x ∷ xs) = elim (mem x xs) [ true ↦ nub xs | false ↦ x ∷ nub xs ]

  unfoldable pub erase : A → List A → List A
  erase x [] = []
  erase x (y ∷ ys) = elim (eq x y) [ true ↦ ys | false ↦ y ∷ erase x ys ]

  abbrev pub NoDup : List A → Type 0
  NoDup [] = Unit {0}
  NoDup (x ∷ xs) = (mem x xs ≡ false) × NoDup xs

  -- every member of l is one of m
  abbrev pub Within : List A → List A → Type 0
  Within l m = (x : A) → mem x l ≡ true → mem x m ≡ true

  pub nub-old : (x : A) (xs : List A) → mem x xs ≡ true → nub (x ∷ xs) ≡ nub xs
  unfolding nub
  nub-old x xs e = rw (e, nub)

  pub nub-new : (x : A) (xs : List A) → mem x xs ≡ false → nub (x ∷ xs) ≡ x ∷ nub xs
  unfolding nub
  nub-new x xs e = rw (e, nub)

  pub erase-here : (x y : A) (ys : List A) → eq x y ≡ true → erase x (y ∷ ys) ≡ ys
  unfolding erase
  erase-here x y ys e = rw (e, erase)

  pub erase-there : (x y : A) (ys : List A) → eq x y ≡ false → erase x (y ∷ ys) ≡ y ∷ erase x ys
  unfolding erase
  erase-there x y ys e = rw (e, erase)

  pub mem-append : (x : A) (l m : List A) → mem x (l ++ m) ≡ (mem x l || mem x m)
  mem-append x [] m = refl
  mem-append x (y ∷ ys) m = rw (mem-append x ys m) (sym (or_assoc (eq x y) (mem x ys) (mem x m)))

  pub append-one : (x : A) (l m : List A) → mem x l ≡ true → mem x (l ++ m) ≡ true
  append-one x l m h = rw (mem-append x l m) (or-one _ _ h)

  pub append-other : (x : A) (l m : List A) → mem x m ≡ true → mem x (l ++ m) ≡ true
  append-other x l m h = rw (mem-append x l m) (or-other (mem x l) _ h)

  pub append_cases : (x : A) (l m : List A) → mem x (l ++ m) ≡ true → Either (mem x l) (mem x m)
  append_cases x l m h = either (mem x l) (mem x m) (rw (mem-append x l m) at h)

  -- a member of a list with one more at the end
  pub snoc-cases : (y x : A) (l : List A) → mem y (l ++ (x ∷ [])) ≡ true → Either (mem y l) (eq y x)
  snoc-cases y x l h = go (append_cases y l (x ∷ []) h)
    where
      go : Either (mem y l) (mem y (x ∷ [])) → Either (mem y l) (eq y x)
      go (one e) = one e
      go (other e) = other (rw or-false at e)

-- a test that fails is not one that holds
pub clash : {A : Type 0} {b : Bool} → b ≡ true → b ≡ false → A
clash p q = absurd (true≢false (sym p ∙ q))

module _ {A : Type 0} (eq : A → A → Bool) (law : IsTest eq) where
  pub eq_flip : (x y : A) → eq x y ≡ false → eq y x ≡ false
  eq_flip x y e = go (flag (eq y x))
    where
      go : Flag (eq y x) → eq y x ≡ false
      go (is_true d) = clash (law.complete x) (ap (eq x) (sym (law.sound y x d)) ∙ e)
      go (is_false d) = d

  -- one more at the end
  pub mem-snoc : (x : A) (l : List A) → mem eq x (l ++ (x ∷ [])) ≡ true
  mem-snoc x l = append-other eq x l (x ∷ []) (or-one _ _ (law.complete x))

  pub nodup-snoc : (l : List A) (x : A) → NoDup eq l → mem eq x l ≡ false → NoDup eq (l ++ (x ∷ []))
  nodup-snoc [] x d e = (refl, tt)
  nodup-snoc (y ∷ ys) x d e = (outer (flag (mem eq y (ys ++ (x ∷ [])))), nodup-snoc ys x d.1 (later (flag (mem eq x ys))))
    where
      later : Flag (mem eq x ys) → mem eq x ys ≡ false
      later (is_true q) = clash (or-other (eq x y) _ q) e
      later (is_false q) = q

      apart : Flag (eq x y) → eq y x ≡ false
      apart (is_true q) = clash (or-one (eq x y) (mem eq x ys) q) e
      apart (is_false q) = eq_flip x y q

      split : Either (mem eq y ys) (eq y x) → ⊥
      split (one q) = clash q d.0
      split (other q) = clash q (apart (flag (eq x y)))

      outer : Flag (mem eq y (ys ++ (x ∷ []))) → mem eq y (ys ++ (x ∷ [])) ≡ false
      outer (is_true q) = absurd (split (snoc-cases eq y x ys q))
      outer (is_false q) = q

  pub mem-nub : (x : A) (l : List A) → mem eq x (nub eq l) ≡ mem eq x l
  unfolding nub
  mem-nub x [] = refl
  mem-nub x (y ∷ ys) = go (flag (mem eq y ys)) (flag (eq x y)) (mem-nub x ys)
    where
      go : Flag (mem eq y ys) → Flag (eq x y) → mem eq x (nub eq ys) ≡ mem eq x ys → mem eq x (nub eq (y ∷ ys)) ≡ (eq x y || mem eq x ys)
      go (is_true e) (is_true d) h = rw (nub-old eq y ys e, h, d) (rw (law.sound x y d) e)
      go (is_true e) (is_false d) h = rw (nub-old eq y ys e, h, d)
      go (is_false e) d h = rw (nub-new eq y ys e, h)

  pub nodup-nub : (l : List A) → NoDup eq (nub eq l)
  unfolding nub
  nodup-nub [] = tt
  nodup-nub (y ∷ ys) = go (flag (mem eq y ys)) (nodup-nub ys)
    where
      go : Flag (mem eq y ys) → NoDup eq (nub eq ys) → NoDup eq (nub eq (y ∷ ys))
      go (is_true e) h = rw (nub-old eq y ys e) h
      go (is_false e) h = rw (nub-new eq y ys e) (mem-nub y ys ∙ e, h)

  mem-erase : (x y : A) (m : List A) → eq y x ≡ false → mem eq y (erase eq x m) ≡ mem eq y m
  unfolding erase
  mem-erase x y [] n = refl
  mem-erase x y (z ∷ zs) n = go (flag (eq x z)) (mem-erase x y zs n)
    where
      go : Flag (eq x z) → mem eq y (erase eq x zs) ≡ mem eq y zs → mem eq y (erase eq x (z ∷ zs)) ≡ (eq y z || mem eq y zs)
      go (is_true e) h = rw (erase-here eq x z zs e, ← law.sound x z e, n)
      go (is_false e) h = rw (erase-there eq x z zs e, h)

  length-erase : (x : A) (m : List A) → mem eq x m ≡ true → suc (length (erase eq x m)) ≡ length m
  length-erase x [] e = clash e refl
  length-erase x (z ∷ zs) e = go (flag (eq x z)) (length-erase x zs)
    where
      go : Flag (eq x z) → (mem eq x zs ≡ true → suc (length (erase eq x zs)) ≡ length zs) → suc (length (erase eq x (z ∷ zs))) ≡ suc (length zs)
      go (is_true d) h = rw (erase-here eq x z zs d)
      go (is_false d) h = rw (erase-there eq x z zs d) (ap suc (h (rw d at e)))

  -- a list without repeats is no longer than a list that holds its members
  pub nodup-le : (l m : List A) → NoDup eq l → Within eq l m → length l ≤ length m
  nodup-le [] m d w = zero-le
  nodup-le (x ∷ xs) m d w =
      let h = nodup-le xs (erase eq x m) d.1 inner in
      let k = length-erase x m (w x (rw (law.complete x))) in
      omega arith
    where
      inner : Within eq xs (erase eq x m)
      inner y e = go (flag (eq y x))
        where
          go : Flag (eq y x) → mem eq y (erase eq x m) ≡ true
          go (is_true q) = clash e (rw (law.sound y x q) d.0)
          go (is_false q) = rw (mem-erase x y m q) (w y (rw (e, or-true)))

  -- the count of a list's members
  pub nodup-count : (l m : List A) → NoDup eq m → Within eq l m → Within eq m l → length m ≡ length (nub eq l)
  nodup-count l m d v w =
      let a = nodup-le m (nub eq l) d (λ x e. mem-nub x l ∙ w x e) in
      let b = nodup-le (nub eq l) m (nodup-nub l) (λ x e. v x (sym (mem-nub x l) ∙ e)) in
      omega arith
