-- Operands apart: the number of their sum is the sum of their numbers, and so for max; times a diagram without variables it is the product.
use Rattle.std.specs.Prelude.{◌≡◌, refl, Bool, true, false, cond, ℕ, ◌+◌, ◌*◌, ◌≤◌, ◌<◌, max, eqb}
use Rattle.std.proofs.Common.{ap, ap₂, sym, ◌∙◌, arith, le_of_eq, le_trans, mul-le-mul_left, mul-le-mul_right, eqb-true, eq-eqb}
use mathlib.Core.List.{List, [], ◌∷◌, Memᴰ}
use Rattle.basics.specs.Tests.{Either, one, other, either, or-one, or-other, Flag, is_true, is_false, flag}
use Rattle.basics.specs.Members.{mem, clash}
use Rattle.label.specs.Limits.{first_variable}
use Rattle.diagram.specs.Diagram.{Tree}
use Rattle.state.specs.State.{Atomic, State, Good, value, fixed, Fits}
use Rattle.state.specs.Terms.{Terms}
use Rattle.state.proofs.ValueLaws.{by-low, Terms-mono, value_same}
use Rattle.state.specs.Highest.{vars, Bound}
use Rattle.state.proofs.HighestLaws.{vars-in, highest-max}
use Rattle.minimum.proofs.MinLaws.{max-min}
use Rattle.minimum.specs.Number.{Under, Number, number}
use Rattle.minimum.specs.Inner.{Fixed, Disjoint}
use Rattle.minimum.specs.Operations.{Plain, Rises}
use Rattle.minimum.proofs.NumberLaws.{number_is, number-equal, under-self}
use Rattle.minimum.proofs.PlainLaws.{highest-number, number-highest}

-- ===== Operands whose valuations are chosen freely =====

-- two valuations are joined to one, and each answer to it is parted into answers to the two
abbrev pub Joins : State → List ℕ → (ℕ → ℕ → ℕ) → Tree Atomic → Tree Atomic → Tree Atomic → Type 0
Joins s os op a b c = (θ η : ℕ → ℕ) → Fits s os θ → Fits s os η → (μ : ℕ → ℕ) × Fits s os μ × ((μ' : ℕ → ℕ) → Under s os μ μ'
    → (θ' : ℕ → ℕ) × Under s os θ θ' × ((η' : ℕ → ℕ) × Under s os η η' × (value s c μ' ≡ op (value s a θ') (value s b η'))))

-- one valuation is parted into two, and answers to these are joined to an answer to it
abbrev pub Parts : State → List ℕ → (ℕ → ℕ → ℕ) → Tree Atomic → Tree Atomic → Tree Atomic → Type 0
Parts s os op a b c = (μ : ℕ → ℕ) → Fits s os μ → (θ : ℕ → ℕ) × Fits s os θ × ((η : ℕ → ℕ) × Fits s os η × ((θ' η' : ℕ → ℕ) → Under s os θ θ' → Under s os η η'
    → (μ' : ℕ → ℕ) × Under s os μ μ' × (value s c μ' ≡ op (value s a θ') (value s b η'))))

module _ {s : State} {os : List ℕ} (op : ℕ → ℕ → ℕ) (rises : Rises op) (a b c : Tree Atomic) (joined : Joins s os op a b c) (parted : Parts s os op a b c) where
  pub number-freely : {x y : ℕ} → Number s os a x → Number s os b y → Number s os c (op x y)
  number-freely {x} {y} m k =
      let j = joined m.point k.point m.inside k.inside in
      max-min j.0 j.1
      (λ μ u.
      let p = j.2 μ u in
      let q = p.2 in
      le_trans (rises x (value s a p.0) y (value s b q.0) (m.lowest.bound p.0 p.1) (k.lowest.bound q.0 q.1)) (le_of_eq (sym q.2)))
      (λ μ f.
      let p = parted μ f in
      let q = p.2 in
      let u = m.bound p.0 p.1 in
      let v = k.bound q.0 q.1 in
      let r = q.2 u.0 v.0 u.1 v.1 in
      (r.0, r.1, le_trans (le_of_eq r.2) (rises (value s a u.0) x (value s b v.0) y u.2 v.2)))

-- ===== Operands apart =====

-- θ at the terms that the test names, η at the others
mix : (ℕ → Bool) → (ℕ → ℕ) → (ℕ → ℕ) → ℕ → ℕ
mix mine θ η t = cond (mine t) (θ t) (η t)

mix-mine : (mine : ℕ → Bool) (θ η : ℕ → ℕ) (t : ℕ) → mine t ≡ true → mix mine θ η t ≡ θ t
unfolding mix
mix-mine mine θ η t e = ap (λ b. cond b (θ t) (η t)) e

mix-other : (mine : ℕ → Bool) (θ η : ℕ → ℕ) (t : ℕ) → mine t ≡ false → mix mine θ η t ≡ η t
unfolding mix
mix-other mine θ η t e = ap (λ b. cond b (θ t) (η t)) e

-- whatever is so at both
mix-each : (mine : ℕ → Bool) (θ η : ℕ → ℕ) (t : ℕ) (P : ℕ → Type 0) → (mine t ≡ true → P (θ t)) → (mine t ≡ false → P (η t)) → P (mix mine θ η t)
unfolding mix
mix-each mine θ η t P p q = go (mine t) refl
  where
    go : (b : Bool) → mine t ≡ b → P (cond b (θ t) (η t))
    go true e = p e
    go false e = q e

mix-fits : {s : State} {os : List ℕ} (mine : ℕ → Bool) {θ η : ℕ → ℕ} → Fits s os θ → Fits s os η → Fits s os (mix mine θ η)
mix-fits {s} {os} mine {θ} {η} f g = record {
  low = λ t h. mix-each mine θ η t (λ o. o ≡ fixed s os t) (λ e. f.low t h) (λ e. g.low t h);
  range = λ t. mix-each mine θ η t (λ o. o < s.size) (λ e. f.range t) (λ e. g.range t);
}

-- the test tells the variables of a from those of b
pub record Told (mine : ℕ → Bool) (a b : Tree Atomic) : Type 0 where
  pub first : Terms (λ t. first_variable ≤ t → mine t ≡ true) a
  pub second : Terms (λ t. first_variable ≤ t → mine t ≡ false) b

module _ (s : State) (os : List ℕ) (mine : ℕ → Bool) (a b : Tree Atomic) (told : Told mine a b) where
  value-first : (θ η : ℕ → ℕ) → Fits s os θ → Fits s os η → value s a (mix mine θ η) ≡ value s a θ
  value-first θ η f g = value_same (λ t. first_variable ≤ t → mine t ≡ true) s a (mix mine θ η) θ told.first (λ t e. by-low (mix mine θ η t ≡ θ t) first_variable t
      (λ h. (mix-fits mine f g).low t h ∙ sym (f.low t h))
      (λ h. mix-mine mine θ η t (e h)))

  value-second : (θ η : ℕ → ℕ) → Fits s os θ → Fits s os η → value s b (mix mine θ η) ≡ value s b η
  value-second θ η f g = value_same (λ t. first_variable ≤ t → mine t ≡ false) s b (mix mine θ η) η told.second (λ t e. by-low (mix mine θ η t ≡ η t) first_variable t
      (λ h. (mix-fits mine f g).low t h ∙ sym (g.low t h))
      (λ h. mix-other mine θ η t (e h)))

  -- the operation of the two leaves under every valuation
  pub number-told : (op : ℕ → ℕ → ℕ) → Rises op → (c : Tree Atomic) → ((θ : ℕ → ℕ) → Fits s os θ → value s c θ ≡ op (value s a θ) (value s b θ))
      → {x y : ℕ} → Number s os a x → Number s os b y → Number s os c (op x y)
  number-told op rises c e = number-freely op rises a b c joined parted
    where
      joined : Joins s os op a b c
      joined θ η f g = (
        mix mine θ η,
        mix-fits mine f g,
        λ μ u. (
          mix mine μ θ,
          record {
            fits = mix-fits mine u.fits f;
            same = λ t h. mix-each mine μ θ t (λ o. o ≡ θ t) (λ q. u.same t h ∙ mix-mine mine θ η t q) (λ q. refl);
          },
          (
            mix mine η μ,
            record {
              fits = mix-fits mine g u.fits;
              same = λ t h. mix-each mine η μ t (λ o. o ≡ η t) (λ q. refl) (λ q. u.same t h ∙ mix-other mine θ η t q);
            },
            e μ u.fits ∙ ap₂ op (sym (value-first μ θ u.fits f)) (sym (value-second η μ g u.fits)),
          ),
        ),
      )

      parted : Parts s os op a b c
      parted μ f = (
        μ,
        f,
        (
          μ,
          f,
          λ θ η u v. (
            mix mine θ η,
            record {
              fits = mix-fits mine u.fits v.fits;
              same = λ t h. mix-each mine θ η t (λ o. o ≡ μ t) (λ q. u.same t h) (λ q. v.same t h);
            },
            e (mix mine θ η) (mix-fits mine u.fits v.fits) ∙ ap₂ op (value-first θ η u.fits v.fits) (value-second θ η u.fits v.fits),
          ),
        ),
      )

pub in_mem : (t : ℕ) (ts : List ℕ) → Memᴰ t ts → mem eqb t ts ≡ true
in_mem t (u ∷ ts) (Memᴰ.head e) = or-one (eqb t u) (mem eqb t ts) (eq-eqb t u e)
in_mem t (u ∷ ts) (Memᴰ.tail m) = or-other (eqb t u) (mem eqb t ts) (in_mem t ts m)
in_mem t [] x' = elim x' [ ]

mem-in : (t : ℕ) (ts : List ℕ) → mem eqb t ts ≡ true → Memᴰ t ts
mem-in t [] h = clash h refl
mem-in t (u ∷ ts) h = go (either (eqb t u) (mem eqb t ts) h) (mem-in t ts)
  where
    go : Either (eqb t u) (mem eqb t ts) → (mem eqb t ts ≡ true → Memᴰ t ts) → Memᴰ t (u ∷ ts)
    go (one e) r = Memᴰ.head (eqb-true t u e)
    go (other e) r = Memᴰ.tail (r e)

pub disjoint-told : (a b : Tree Atomic) → Disjoint a b → Told (λ t. mem eqb t (vars a)) a b
disjoint-told a b h = record {
  first = Terms-mono (λ t. first_variable ≤ t → Memᴰ t (vars a)) (λ t. first_variable ≤ t → mem eqb t (vars a) ≡ true)
      (λ t i k. in_mem t (vars a) (i k)) a (vars-in a);
  second = Terms-mono (λ t. first_variable ≤ t → Memᴰ t (vars b)) (λ t. first_variable ≤ t → mem eqb t (vars a) ≡ false)
      (λ t i k. go t (i k) (flag (mem eqb t (vars a)))) b (vars-in b);
}
  where
    go : (t : ℕ) → Memᴰ t (vars b) → Flag (mem eqb t (vars a)) → mem eqb t (vars a) ≡ false
    go t i (is_true e) = absurd (h.apart t (mem-in t (vars a) e) i)
    go t i (is_false e) = e

-- ===== Sum, max and product =====

pub sum-rises : Rises ◌+◌
sum-rises x x' y y' h k = omega arith

pub max-rises : Rises max
max-rises x x' y y' h k = omega arith

pub product-rises : Rises ◌*◌
product-rises x x' y y' h k = le_trans (mul-le-mul_right y h) (mul-le-mul_left x' k)

module _ {s : State} {os : List ℕ} (a b c : Tree Atomic) {x y : ℕ} where
  pub number-apart : Disjoint a b → (op : ℕ → ℕ → ℕ) → Rises op → ((θ : ℕ → ℕ) → Fits s os θ → value s c θ ≡ op (value s a θ) (value s b θ))
      → Number s os a x → Number s os b y → Number s os c (op x y)
  number-apart h op rises e = number-told s os (λ t. mem eqb t (vars a)) a b (disjoint-told a b h) op rises c e

  pub number-sum : Disjoint a b → ((θ : ℕ → ℕ) → Fits s os θ → value s c θ ≡ value s a θ + value s b θ)
      → Number s os a x → Number s os b y → Number s os c (x + y)
  number-sum h e = number-apart h ◌+◌ sum-rises e

  pub number-max : Disjoint a b → ((θ : ℕ → ℕ) → Fits s os θ → value s c θ ≡ max (value s a θ) (value s b θ))
      → Number s os a x → Number s os b y → Number s os c (max x y)
  number-max h e = number-apart h max max-rises e

  -- names shared: without minimum variables
  pub number-max-shared : Plain a → Plain b → Plain c → ((θ : ℕ → ℕ) → Fits s os θ → value s c θ ≡ max (value s a θ) (value s b θ))
      → Number s os a x → Number s os b y → Number s os c (max x y)
  number-max-shared p q r e m k =
      highest-number s os c r (max x y) (highest-max a b c (number-highest s os a p x m) (number-highest s os b q y k) e)

  -- a diagram without variables is apart from every other
  pub number-product : Fixed b → ((θ : ℕ → ℕ) → Fits s os θ → value s c θ ≡ value s a θ * value s b θ)
      → Number s os a x → Number s os b y → Number s os c (x * y)
  number-product p e = number-told s os (λ t. true) a b told ◌*◌ product-rises c e
    where
      told : Told (λ t. true) a b
      told = record {
        first = Terms-mono (λ t. first_variable ≤ t → Memᴰ t (vars a)) (λ t. first_variable ≤ t → true ≡ true) (λ t i k. refl) a (vars-in a);
        second = Terms-mono (λ t. t < first_variable) (λ t. first_variable ≤ t → true ≡ false) (λ t h k. absurd (omega arith)) b p;
      }

-- and its number is its leaf at any valuation
pub number-fixed : (s : State) (os : List ℕ) (d : Tree Atomic) → Fixed d → (θ : ℕ → ℕ) → Fits s os θ → Number s os d (value s d θ)
number-fixed s os d w θ f = max-min θ f
    (λ η u. le_of_eq (sym (same η u.fits)))
    (λ η g. (η, under-self g, le_of_eq (same η g)))
  where
    same : (η : ℕ → ℕ) → Fits s os η → value s d η ≡ value s d θ
    same η g = value_same (λ t. t < first_variable) s d η θ w (λ t h. g.low t h ∙ sym (f.low t h))

-- ===== The same of the numbers computed =====

module _ (s : State) (os : List ℕ) (good : Good s) (bound : Bound s os) (a b c : Tree Atomic) where
  pub number-of-sum : Disjoint a b → ((θ : ℕ → ℕ) → Fits s os θ → value s c θ ≡ value s a θ + value s b θ) → number s os c ≡ number s os a + number s os b
  number-of-sum h e = number-equal s os good bound c _ (number-sum a b c h e (number_is s os good bound a) (number_is s os good bound b))

  pub number-of-max : Disjoint a b → ((θ : ℕ → ℕ) → Fits s os θ → value s c θ ≡ max (value s a θ) (value s b θ))
      → number s os c ≡ max (number s os a) (number s os b)
  number-of-max h e = number-equal s os good bound c _ (number-max a b c h e (number_is s os good bound a) (number_is s os good bound b))

  pub number-of-product : Fixed b → ((θ : ℕ → ℕ) → Fits s os θ → value s c θ ≡ value s a θ * value s b θ) → number s os c ≡ number s os a * number s os b
  number-of-product h e = number-equal s os good bound c _ (number-product a b c h e (number_is s os good bound a) (number_is s os good bound b))
