-- A test of every number below n, one by one.
use mathlib.Core.Path.{◌≡◌, refl, sym, subst, ◌∙◌}
use mathlib.Core.Bool.{Bool, true, false, ◌&&◌}
use Prim.Native.Nat.{ℕ, zero, suc, ◌+◌, ◌≤◌, ◌<◌}
use native.Mathlib.Omega.{arith}
use Rattle.basics.specs.Tests.{Cmp, below, equal, above, cmp}
use Rattle.diagram.specs.Words.{every_below}
use Rattle.diagram.specs.WordLaws.{every-below}

pub record Passed (p : ℕ → Bool) (i : ℕ) : Type 0 where
  pub each : (k : ℕ) → k < i → p k ≡ true

pub passed_start : {p : ℕ → Bool} → Passed p 0
passed_start = record { each = λ k l. absurd (omega arith) }

pub passed_on : {p : ℕ → Bool} {i : ℕ} {b : Bool} → Passed p i → b ≡ p i → b ≡ true → Passed p (i + 1)
passed_on {p} {i} s e t = record { each = λ k l. step k l (cmp k i) }
  where
    step : (k : ℕ) → k < i + 1 → Cmp k i → p k ≡ true
    step k l (below q) = s.each k q
    step k l (equal q) = subst (λ (y : ℕ). p y ≡ true) (sym q) (sym e ∙ t)
    step k l (above q) = absurd (omega arith)

every-not : (n : ℕ) (p : ℕ → Bool) (k : ℕ) → k < n → p k ≡ false → every_below n p ≡ false
every-not zero p k l e = absurd (omega arith)
every-not (suc n) p k l e = go (cmp k n) (every-not n p k)
  where
    no-right : (a b : Bool) → b ≡ false → (a && b) ≡ false
    no-right true b q = q
    no-right false b q = refl

    go : Cmp k n → (k < n → p k ≡ false → every_below n p ≡ false) → (every_below n p && p n) ≡ false
    go (below q) ih = rw (ih q e)
    go (equal q) ih = no-right (every_below n p) (p n) (subst (λ (y : ℕ). p y ≡ false) q e)
    go (above q) ih = absurd (omega arith)

pub passed-no : (n : ℕ) (p : ℕ → Bool) (i : ℕ) {b : Bool} → i < n → b ≡ p i → b ≡ false → false ≡ every_below n p
passed-no n p i l e t = sym (every-not n p i l (sym e ∙ t))

pub passed-all : (n : ℕ) (p : ℕ → Bool) (i : ℕ) → Passed p i → n ≤ i → true ≡ every_below n p
passed-all n p i s l = sym (every-below n p (λ k h. s.each k (omega arith)))
