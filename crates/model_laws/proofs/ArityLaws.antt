-- Arity lists that grow: predicates of no places get places.
use Rattle.std.specs.Prelude.{◌≡◌, ◌⊎◌, true, List, [], ◌∷◌, ℕ, zero, suc, ◌≤◌, ◌<◌, length, get_or, set, eqb, leb}
use Rattle.std.proofs.Common.{inl, inr, arith, length-set, get_or-set_other, eq-eqb, le-leb}
use Rattle.std.proofs.Math.Decide.{ℕ_discrete}
use Rattle.basics.specs.Tests.{and_left, and_right}
use Rattle.label.specs.Limits.{predicate_count, most_places, equality, equality_arity}
use Rattle.label.specs.Labels.{are_arities, all_at_most}
use Rattle.label.proofs.ArityLaws.{arity-two, arity-words}

-- every predicate has the places that it had, or had none
pub record AritiesGrown (ar br : List ℕ) : Type 0 where
  pub arities : are_arities br ≡ true
  pub each : (q : ℕ) → (get_or br q 0 ≡ get_or ar q 0) ⊎ (get_or ar q 0 ≡ 0)

pub grown-more : (ar br : List ℕ) → AritiesGrown ar br → (q : ℕ) → get_or ar q 0 ≤ get_or br q 0
grown-more ar br g q = go (g.each q)
  where
    go : (get_or br q 0 ≡ get_or ar q 0) ⊎ (get_or ar q 0 ≡ 0) → get_or ar q 0 ≤ get_or br q 0
    go (inl e) = omega arith
    go (inr e) = omega arith

set-at-most : (m : ℕ) (ar : List ℕ) (i a : ℕ) → all_at_most m ar ≡ true → a ≤ m → all_at_most m (set ar i a) ≡ true
set-at-most m [] i a h f = h
set-at-most m (x ∷ xs) zero a h f = rw (le-leb a m f) (and_right (leb x m) _ h)
set-at-most m (x ∷ xs) (suc i) a h f = rw (and_left (leb x m) _ h) (set-at-most m xs i a (and_right (leb x m) _ h) f)

-- an arity list with another arity for a predicate but equality
set-arities : (ar : List ℕ) (i a : ℕ) → are_arities ar ≡ true → 0 < i → a ≤ most_places → are_arities (set ar i a) ≡ true
unfolding are_arities
set-arities ar i a h p f =
    let w = and_right (eqb (get_or ar equality 0) equality_arity) _ (and_right (eqb (length ar) predicate_count) _ h) in
    rw (
      length-set,
      get_or-set_other ar i equality a 0 (λ e. omega arith),
      eq-eqb (length ar) predicate_count (arity-words ar h),
      eq-eqb (get_or ar equality 0) equality_arity (arity-two ar h),
    )
    (set-at-most most_places ar i a w f)

-- a predicate of no places gets a
pub grown-set : (ar : List ℕ) (i a : ℕ) → are_arities ar ≡ true → 0 < i → get_or ar i 0 ≡ 0 → a ≤ most_places → AritiesGrown ar (set ar i a)
grown-set ar i a h p z f = record { arities = set-arities ar i a h p f; each = λ q. go q (ℕ_discrete q i) }
  where
    go : (q : ℕ) → Dec (q ≡ i) → (get_or (set ar i a) q 0 ≡ get_or ar q 0) ⊎ (get_or ar q 0 ≡ 0)
    go q (yes e) = inr (rw e z)
    go q (no e) = inl (get_or-set_other ar i q a 0 e)
