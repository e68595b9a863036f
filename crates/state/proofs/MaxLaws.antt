-- Laws of maxima, and of gathered lists.
use Rattle.std.specs.Prelude.{◌≡◌, refl, List, [], ◌∷◌, ◌++◌, Bool, true, false, ℕ, zero, suc, ◌≤◌, ◌<◌, max, leb}
use Rattle.std.proofs.Common.{sym, ap, ◌∙◌, append_assoc, append-nil, arith, le_trans, le_refl, le_of_eq, leb-true, leb-false}
use Rattle.state.specs.Inner.{IsMax, Below}
use Rattle.state.specs.Max.{max_to, Tuple, none, more, gather, max_tuples}

module _ {X Y : Type 0} {P : X → Type 0} {f : X → ℕ} {Q : Y → Type 0} {g : Y → ℕ} where
  pub max-by : {x : ℕ} → IsMax P f x → Below P f Q g → Below Q g P f → IsMax Q g x
  max-by {x} m up down = record {
    point = (up m.point m.inside).0;
    inside = (up m.point m.inside).1;
    value =
        let b = up m.point m.inside in
        let c = down b.0 b.1 in
        let h = m.bound c.0 c.1 in
        let e = m.value in
        let l = b.2 in
        let k = c.2 in
        omega arith;
    bound = λ b q. le_trans (down b q).2 (m.bound (down b q).0 (down b q).1);
  }

module _ {X : Type 0} {P : X → Type 0} {f : X → ℕ} where
  pub max-one : {x y : ℕ} → IsMax P f x → IsMax P f y → x ≡ y
  max-one {x} {y} m k =
      let a = m.bound k.point k.inside in
      let b = k.bound m.point m.inside in
      let c = m.value in
      let d = k.value in
      omega arith

  -- another function with the same values on P
  pub max-same : {g : X → ℕ} {x : ℕ} → IsMax P f x → ((a : X) → P a → f a ≡ g a) → IsMax P g x
  max-same m e = max-by m (λ a p. (a, p, le_of_eq (e a p))) (λ a p. (a, p, le_of_eq (sym (e a p))))

-- the higher of two functions
module _ {X : Type 0} {P : X → Type 0} {f g h : X → ℕ} where
  pub max-both : {x y : ℕ} → IsMax P f x → IsMax P g y → ((a : X) → P a → h a ≡ max (f a) (g a)) → IsMax P h (max x y)
  max-both {x} {y} m k e = go (leb x y) refl
    where
      at : (a : X) → P a → h a ≡ max x y → IsMax P h (max x y)
      at a i v = record { point = a; inside = i; value = v; bound = λ b p. omega (arith, m.bound b p, k.bound b p, e b p) }

      go : (b : Bool) → leb x y ≡ b → IsMax P h (max x y)
      go true q = at k.point k.inside (omega (arith, leb-true x y q, m.bound k.point k.inside, k.value, e k.point k.inside))
      go false q = at m.point m.inside (omega (arith, leb-false x y q, k.bound m.point m.inside, m.value, e m.point m.inside))

max_to-bound : (n : ℕ) (f : ℕ → ℕ) (o : ℕ) → o < n → f o ≤ max_to n f
unfolding max_to
max_to-bound zero f o h = omega arith
max_to-bound (suc n) f o h = go (max_to-bound n f o) (leb n o) refl
  where
    go : (o < n → f o ≤ max_to n f) → (b : Bool) → leb n o ≡ b → f o ≤ max (max_to n f) (f n)
    go rec true q =
        let l = leb-true n o q in
        let e : o ≡ n = omega arith in
        rw e (omega arith)
    go rec false q =
        let k = rec (leb-false n o q) in
        omega arith

max_to-hit : (n : ℕ) (f : ℕ → ℕ) → (o : ℕ) × (o < suc n) × (f o ≡ max_to (suc n) f)
unfolding max_to
max_to-hit zero f = (0, omega arith, omega arith)
max_to-hit (suc n) f = go (max_to-hit n f) (leb (max_to (suc n) f) (f (suc n))) refl
  where
    go : (o : ℕ) × (o < suc n) × (f o ≡ max_to (suc n) f) → (b : Bool) → leb (max_to (suc n) f) (f (suc n)) ≡ b
        → (o : ℕ) × (o < suc (suc n)) × (f o ≡ max_to (suc (suc n)) f)
    go i true q =
        let l = leb-true (max_to (suc n) f) (f (suc n)) q in
        (suc n, omega arith, omega arith)
    go i false q =
        let l = leb-false (max_to (suc n) f) (f (suc n)) q in
        let u = i.1 in
        let v = i.2 in
        (i.0, omega arith, omega arith)

pub max_to-is : (n : ℕ) (f : ℕ → ℕ) → 0 < n → IsMax (λ o. o < n) f (max_to n f)
max_to-is zero f h = absurd (omega arith)
max_to-is (suc n) f h = record {
  point = (max_to-hit n f).0;
  inside = (max_to-hit n f).1;
  value = (max_to-hit n f).2;
  bound = max_to-bound (suc n) f;
}

pub max_tuples-is : (n c : ℕ) (f : List ℕ → ℕ) → 0 < n → IsMax (Tuple n c) f (max_tuples n c f)
unfolding max_tuples
max_tuples-is n zero f h = record {
  point = [];
  inside = none;
  value = refl;
  bound = only;
}
  where
    only : (os : List ℕ) → Tuple n 0 os → f os ≤ f []
    only os none = le_refl (f [])
max_tuples-is n (suc c) f h = build (λ o. max_tuples-is n c (λ os. f (o ∷ os)) h)
  where
    g : ℕ → ℕ
    g o = max_tuples n c (λ os. f (o ∷ os))

    build : ((o : ℕ) → IsMax (Tuple n c) (λ os. f (o ∷ os)) (g o)) → IsMax (Tuple n (suc c)) f (max_to n g)
    build rec =
        let top = max_to-is n g h in
        record {
          point = top.point ∷ (rec top.point).point;
          inside = more top.inside (rec top.point).inside;
          value = (rec top.point).value ∙ top.value;
          bound = all;
        }
      where
        all : (os : List ℕ) → Tuple n (suc c) os → f os ≤ max_to n g
        all os (more {o = o} {os = os'} l t) = le_trans ((rec o).bound os' t) ((max_to-is n g h).bound o l)

-- one member more
pub gather-last : {A B : Type 0} (f : A → List B) (l : List A) (a : A) → gather f (l ++ (a ∷ [])) ≡ gather f l ++ f a
gather-last f [] a = append-nil (f a)
gather-last f (b ∷ l) a = ap (f b ++◌) (gather-last f l a) ∙ sym (append_assoc (f b) (gather f l) (f a))
