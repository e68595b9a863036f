-- Laws of minima, and of maxima of minima.
use Rattle.std.specs.Prelude.{◌≡◌, refl, Bool, true, false, ℕ, zero, suc, ◌*◌, ◌≤◌, ◌<◌, min, leb}
use Rattle.std.proofs.Common.{arith, le_trans, le_refl, mul-le-mul_right, leb-true, leb-false}
use Rattle.minimum.specs.Inner.{Met}
use Rattle.minimum.specs.Min.{IsMin, IsMaxMin, min_to}

-- ===== Minima =====

min_to-bound : (n : ℕ) (f : ℕ → ℕ) (o : ℕ) → o < suc n → min_to (suc n) f ≤ f o
unfolding min_to
min_to-bound zero f o h =
    let e : o ≡ 0 = omega arith in
    rw e (le_refl (f 0))
min_to-bound (suc n) f o h = go (min_to-bound n f o) (leb (suc n) o) refl
  where
    go : (o < suc n → min_to (suc n) f ≤ f o) → (b : Bool) → leb (suc n) o ≡ b → min (min_to (suc n) f) (f (suc n)) ≤ f o
    go rec true q =
        let l = leb-true (suc n) o q in
        let e : o ≡ suc n = omega arith in
        rw e (omega arith)
    go rec false q =
        let k = rec (leb-false (suc n) o q) in
        omega arith

min_to-hit : (n : ℕ) (f : ℕ → ℕ) → (o : ℕ) × (o < suc n) × (f o ≡ min_to (suc n) f)
unfolding min_to
min_to-hit zero f = (0, omega arith, refl)
min_to-hit (suc n) f = go (min_to-hit n f) (leb (min_to (suc n) f) (f (suc n))) refl
  where
    go : (o : ℕ) × (o < suc n) × (f o ≡ min_to (suc n) f) → (b : Bool) → leb (min_to (suc n) f) (f (suc n)) ≡ b
        → (o : ℕ) × (o < suc (suc n)) × (f o ≡ min (min_to (suc n) f) (f (suc n)))
    go i true q =
        let l = leb-true (min_to (suc n) f) (f (suc n)) q in
        let u = i.1 in
        let v = i.2 in
        (i.0, omega arith, omega arith)
    go i false q =
        let l = leb-false (min_to (suc n) f) (f (suc n)) q in
        (suc n, omega arith, omega arith)

pub min_to-is : (n : ℕ) (f : ℕ → ℕ) → 0 < n → IsMin (λ o. o < n) f (min_to n f)
min_to-is zero f h = absurd (omega arith)
min_to-is (suc n) f h = record {
  point = (min_to-hit n f).0;
  inside = (min_to-hit n f).1;
  value = (min_to-hit n f).2;
  bound = min_to-bound n f;
}

-- ===== Maxima of minima =====

-- a choice whose answers are all at least x, where every choice has one of at most x: so x is attained
module _ {X : Type 0} {P : X → Type 0} {Q : X → X → Type 0} {f : X → ℕ} where
  pub max-min : {x : ℕ} (a : X) → P a → ((b : X) → Q a b → x ≤ f b) → ((c : X) → P c → (b : X) × Q c b × (f b ≤ x)) → IsMaxMin P Q f x
  max-min {x} a p least bound = record {
    point = a;
    inside = p;
    lowest = record {
      point = (bound a p).0;
      inside = (bound a p).1;
      value =
          let u = least (bound a p).0 (bound a p).1 in
          let v = (bound a p).2 in
          omega arith;
      bound = least;
    };
    bound = bound;
  }

  pub max-min-one : {x y : ℕ} → IsMaxMin P Q f x → IsMaxMin P Q f y → x ≡ y
  max-min-one {x} {y} m k =
      let a = m.bound k.point k.inside in
      let b = k.bound m.point m.inside in
      let c = k.lowest.bound a.0 a.1 in
      let d = m.lowest.bound b.0 b.1 in
      let u = a.2 in
      let v = b.2 in
      omega arith

module _ {X : Type 0} {P : X → Type 0} {Q : X → X → Type 0} {f g : X → ℕ} where
  -- every value times w
  pub max-min-scale : {x : ℕ} (w : ℕ) → IsMaxMin P Q f x → ((a b : X) → P a → Q a b → g b ≡ f b * w) → IsMaxMin P Q g (x * w)
  max-min-scale w m e = max-min m.point m.inside
      (λ b q. rw (e m.point b m.inside q) (mul-le-mul_right w (m.lowest.bound b q)))
      (λ a p. let b = m.bound a p in (b.0, b.1, rw (e a b.0 p b.1) (mul-le-mul_right w b.2)))

-- choices that meet each other
module _ {X Y : Type 0} {P : X → Type 0} {Q : X → X → Type 0} {f : X → ℕ} {P' : Y → Type 0} {Q' : Y → Y → Type 0} {g : Y → ℕ} where
  pub max-min-by : {x : ℕ} → IsMaxMin P Q f x → Met P Q f P' Q' g → Met P' Q' g P Q f → IsMaxMin P' Q' g x
  max-min-by m up down =
      let a = up m.point m.inside in
      max-min a.0 a.1
      (λ b' q. let b = a.2 b' q in le_trans (m.lowest.bound b.0 b.1) b.2)
      (λ c p.
      let d = down c p in
      let b = m.bound d.0 d.1 in
      let b' = d.2 b.0 b.1 in
      (b'.0, b'.1, le_trans b'.2 b.2))
