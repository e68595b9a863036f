-- Folds that may be refused, part by part.
use mathlib.Core.Path.{◌≡◌, ap, subst, ◌∙◌}
use mathlib.Core.Logic.{◌⊎◌, inl, inr}
use Prim.Native.Nat.{ℕ, zero, suc, ◌+◌, ◌≤◌, ◌<◌}
use native.Mathlib.Omega.{arith}
use native.Mathlib.Nat.{eq-or-lt_of_le, le_of_suc-le-suc}
use native.Mathlib.Numerals.{add-one}
use Rattle.refusal.specs.declared.Refusal.{Refusal}
use Rattle.refusal.specs.Outcome.{Outcome, ok, refused, and_then}

-- S v is what the first v parts give
module _ {R : Type 0} (S : ℕ → Outcome R) (step : R → ℕ → Outcome R) (more : (v : ℕ) → S (suc v) ≡ and_then (S v) (λ d. step d v)) where
  pub fold_on : {v : ℕ} {d : R} → S v ≡ ok d → S (v + 1) ≡ step d v
  fold_on {v} e = ap S (add-one v) ∙ more v ∙ ap (λ (o : Outcome R). and_then o (λ d. step d v)) e

  -- a refusal met is the answer
  pub fold-refused : {v : ℕ} {r : Refusal} → S v ≡ refused r → (n : ℕ) → v ≤ n → S n ≡ refused r
  fold-refused {v} {r} e zero h = let z : v ≡ 0 = omega arith in subst (λ (x : ℕ). S x ≡ refused r) z e
  fold-refused {v} {r} e (suc n) h = go (fold-refused e n) (eq-or-lt_of_le h)
    where
      go : (v ≤ n → S n ≡ refused r) → (v ≡ suc n) ⊎ (v < suc n) → S (suc n) ≡ refused r
      go rest (inl z) = subst (λ (x : ℕ). S x ≡ refused r) z e
      go rest (inr l) = more n ∙ ap (λ (o : Outcome R). and_then o (λ d. step d n)) (rest (le_of_suc-le-suc l))

  -- what no part changes is the answer
  pub fold-settled : {v : ℕ} {d : R} → S v ≡ ok d → ((k : ℕ) → step d k ≡ ok d) → (n : ℕ) → v ≤ n → S n ≡ ok d
  fold-settled {v} {d} e f zero h = let z : v ≡ 0 = omega arith in subst (λ (x : ℕ). S x ≡ ok d) z e
  fold-settled {v} {d} e f (suc n) h = go (fold-settled e f n) (eq-or-lt_of_le h)
    where
      go : (v ≤ n → S n ≡ ok d) → (v ≡ suc n) ⊎ (v < suc n) → S (suc n) ≡ ok d
      go rest (inl z) = subst (λ (x : ℕ). S x ≡ ok d) z e
      go rest (inr l) = more n ∙ ap (λ (o : Outcome R). and_then o (λ d. step d n)) (rest (le_of_suc-le-suc l)) ∙ f n
