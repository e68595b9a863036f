-- Laws of `prev`: a chain visits the places of its bucket, all of them, downwards.
use Rattle.std.specs.Prelude.{◌≡◌, ◌⊎◌, eqb}
use Rattle.std.proofs.Math.Path.{refl, subst}
use Rattle.std.proofs.Common.{sym, ap, ◌∙◌, inl, inr, eq-or-lt_of_le, le_of_suc-le-suc, arith, eqb-true, eq-eqb, ne_eqb}
use Rattle.std.proofs.Math.Logic.{⊎_elim}
use Prim.Native.Nat.{ℕ, zero, suc, ◌<◌, ◌≤◌, zero-le}
use Rattle.std.proofs.lemmas.Bool.{eqb-false}
use Rattle.basics.specs.Tests.{Flag, is_true, is_false, flag}
use Rattle.table.specs.Chains.{prev}

-- two numbers are equal or not
pub test : (m n : ℕ) → (m ≡ n) ⊎ (m ≡ n → ⊥)
test m n = go (flag (eqb m n))
  where
    go : Flag (eqb m n) → (m ≡ n) ⊎ (m ≡ n → ⊥)
    go (is_true e) = inl (eqb-true m n e)
    go (is_false e) = inr (eqb-false m n e)

-- `prev` at one more place, by the test
module _ (f : ℕ → ℕ) (b n : ℕ) where
  pub prev-same : f n ≡ b → prev f b (suc n) ≡ suc n
  unfolding prev
  prev-same e = rw (eq-eqb (f n) b e)

  pub prev-other : (f n ≡ b → ⊥) → prev f b (suc n) ≡ prev f b n
  unfolding prev
  prev-other e = rw (ne_eqb (f n) b e)

module _ (f : ℕ → ℕ) (b : ℕ) where
  pub prev-zero : prev f b 0 ≡ 0
  unfolding prev
  prev-zero = refl

  pub prev-le : (n : ℕ) → prev f b n ≤ n
  unfolding prev
  prev-le zero = zero-le
  prev-le (suc n) = ⊎_elim (λ e. omega (arith, prev-same f b n e)) (λ e. omega (arith, prev-other f b n e, prev-le n)) (test (f n) b)

  -- no place of the bucket is passed over
  pub prev-gap : (n k : ℕ) → prev f b n ≤ k → k < n → f k ≡ b → ⊥
  prev-gap zero k l h e = omega arith
  prev-gap (suc n) k l h e =
      ⊎_elim (λ p. omega (arith, prev-same f b n p))
      (λ p. ⊎_elim (λ q. p (ap f (sym q) ∙ e)) (λ q. prev-gap n k (omega (arith, prev-other f b n p)) q e) (eq-or-lt_of_le (le_of_suc-le-suc h)))
      (test (f n) b)

  -- the place is in the bucket
  pub prev-hits : (n i : ℕ) → prev f b n ≡ suc i → f i ≡ b
  unfolding prev
  prev-hits zero i e = absurd (omega arith)
  prev-hits (suc n) i e =
      ⊎_elim (λ p. let q : n ≡ i = omega (arith, prev-same f b n p) in subst (λ (m : ℕ). f m ≡ b) q p)
      (λ p. prev-hits n i (sym (prev-other f b n p) ∙ e)) (test (f n) b)

  -- a bucket with no place
  pub prev-none : (n : ℕ) → ((k : ℕ) → k < n → f k ≡ b → ⊥) → prev f b n ≡ 0
  prev-none zero h = prev-zero
  prev-none (suc n) h = prev-other f b n (h n (omega arith)) ∙ prev-none n (λ k l. h k (omega arith))

-- `prev` depends on the places below n only
pub prev-ext : (f g : ℕ → ℕ) (b n : ℕ) → ((k : ℕ) → k < n → f k ≡ g k) → prev f b n ≡ prev g b n
unfolding prev
prev-ext f g b zero h = refl
prev-ext f g b (suc n) h = rw (h n (omega arith), prev-ext f g b n (λ k l. h k (omega arith)))
