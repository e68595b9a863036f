-- Variables renamed kind by kind, no two to one: the number stays.
use Rattle.std.specs.Prelude.{◌≡◌, refl, Bool, true, false, cond, ℕ, ◌≤◌, ◌<◌, eqb}
use Rattle.std.proofs.Common.{ap, sym, ◌∙◌, arith, le_of_eq, eqb-true}
use mathlib.Core.List.{List, [], ◌∷◌, Memᴰ}
use Rattle.std.proofs.lemmas.Bool.{eqb-false}
use Rattle.basics.specs.Tests.{Cmp, below, equal, above, cmp}
use Rattle.label.specs.Limits.{first_variable, first_minimum}
use Rattle.diagram.specs.Diagram.{Tree}
use Rattle.state.specs.State.{Atomic, State, value, low, Fits}
use Rattle.state.specs.Terms.{Terms, rename}
use Rattle.state.proofs.ValueLaws.{low-lt, low-ge, by-low, Terms-mono, value_same, rename-value, fits_after}
use Rattle.state.specs.Highest.{vars}
use Rattle.state.proofs.HighestLaws.{vars-in}
use Rattle.minimum.specs.Inner.{Met, SameKind, KindByKind}
use Rattle.minimum.specs.Number.{Under, Number}
use Rattle.minimum.proofs.NumberLaws.{number_by, split, split-low, split-high, split-under}

-- the variable of the list that ρ turns into t
back : (ℕ → ℕ) → List ℕ → ℕ → ℕ
back ρ [] t = t
back ρ (v ∷ vs) t = cond (eqb (ρ v) t) v (back ρ vs t)

back-of : (ρ : ℕ → ℕ) (vs : List ℕ) (u : ℕ) → Memᴰ u vs → ((v : ℕ) → Memᴰ v vs → ρ v ≡ ρ u → v ≡ u) → back ρ vs (ρ u) ≡ u
unfolding back
back-of ρ (v ∷ vs) u i one = go (eqb (ρ v) (ρ u)) refl i (λ j. back-of ρ vs u j (λ w k e. one w (Memᴰ.tail k) e))
  where
    go : (b : Bool) → eqb (ρ v) (ρ u) ≡ b → Memᴰ u (v ∷ vs) → (Memᴰ u vs → back ρ vs (ρ u) ≡ u) → cond b v (back ρ vs (ρ u)) ≡ u
    go true e j r = one v (Memᴰ.head refl) (eqb-true (ρ v) (ρ u) e)
    go false e (Memᴰ.head q) r = absurd (eqb-false (ρ v) (ρ u) e (ap ρ (sym q)))
    go false e (Memᴰ.tail j) r = r j
back-of ρ [] u i one = elim i [ ]

-- what is no variable by θ, variables by θ where they come from
drawn : (ℕ → ℕ) → (ℕ → ℕ) → ℕ → ℕ
drawn σ θ t = low first_variable t (θ t) (θ (σ t))

-- a map that goes back over the variables of d is all that is needed
module _ (s : State) (os : List ℕ) (d : Tree Atomic) (ρ σ : ℕ → ℕ) (keeps : (t : ℕ) → t < first_variable → ρ t ≡ t)
    (kinds : Terms (λ t. first_variable ≤ t → SameKind t (ρ t) × (σ (ρ t) ≡ t)) d) where
  drawn-low : (θ : ℕ → ℕ) (t : ℕ) → t < first_variable → drawn σ θ t ≡ θ t
  unfolding drawn
  drawn-low θ t h = low-lt first_variable t (θ t) (θ (σ t)) h

  drawn-high : (θ : ℕ → ℕ) (t : ℕ) → first_variable ≤ t → drawn σ θ t ≡ θ (σ t)
  unfolding drawn
  drawn-high θ t h = low-ge first_variable t (θ t) (θ (σ t)) h

  drawn-fits : (θ : ℕ → ℕ) → Fits s os θ → Fits s os (drawn σ θ)
  drawn-fits θ f = record {
    low = λ t h. drawn-low θ t h ∙ f.low t h;
    range = λ t. by-low (drawn σ θ t < s.size) first_variable t (λ h. rw (drawn-low θ t h) (f.range t)) (λ h. rw (drawn-high θ t h) (f.range (σ t)));
  }

  -- valuations that agree on terms that are no variables, on maximum variables and on minimum variables of d
  through : (θ η : ℕ → ℕ) → ((t : ℕ) → t < first_variable → θ (ρ t) ≡ η t)
      → ((t : ℕ) → first_variable ≤ t → t < first_minimum → SameKind t (ρ t) → σ (ρ t) ≡ t → θ (ρ t) ≡ η t)
      → ((t : ℕ) → first_minimum ≤ t → SameKind t (ρ t) → σ (ρ t) ≡ t → θ (ρ t) ≡ η t)
      → value s (rename ρ d) θ ≡ value s d η
  through θ η p q r = rename-value s ρ d θ ∙ value_same (λ t. first_variable ≤ t → SameKind t (ρ t) × (σ (ρ t) ≡ t)) s d (λ t. θ (ρ t)) η kinds
      (λ t k. by-low (θ (ρ t) ≡ η t) first_variable t (p t) (λ h. by-low (θ (ρ t) ≡ η t) first_minimum t
      (λ l. q t h l (k h).0 (k h).1)
      (λ l. r t l (k h).0 (k h).1)))

  -- a valuation of d is met by one of the renamed diagram
  up : Met (Fits s os) (Under s os) (value s d) (Fits s os) (Under s os) (value s (rename ρ d))
  up θ f = (
    drawn σ θ,
    drawn-fits θ f,
    λ μ u. (
      split θ (λ t. μ (ρ t)),
      split-under (λ t. μ (ρ t)) f (λ t. u.fits.range (ρ t)),
      le_of_eq (sym (through μ (split θ (λ t. μ (ρ t)))
          (λ t h. ap μ (keeps t h) ∙ u.same t (omega arith) ∙ drawn-low θ t h ∙ sym (split-low θ (λ t. μ (ρ t)) t (omega arith)))
          (λ t h l k e. u.same (ρ t) (k.maximum l) ∙ drawn-high θ (ρ t) k.variable ∙ ap θ e ∙ sym (split-low θ (λ t. μ (ρ t)) t l))
          (λ t h k e. sym (split-high θ (λ t. μ (ρ t)) t h)))),
    ),
  )

  -- and back
  down : Met (Fits s os) (Under s os) (value s (rename ρ d)) (Fits s os) (Under s os) (value s d)
  down μ f = (
    (λ t. μ (ρ t)),
    fits_after f keeps,
    λ η u. (
      split μ (λ t. η (σ t)),
      split-under (λ t. η (σ t)) f (λ t. u.fits.range (σ t)),
      le_of_eq (through (split μ (λ t. η (σ t))) η
          (λ t h. ap (split μ (λ t. η (σ t))) (keeps t h) ∙ split-low μ (λ t. η (σ t)) t (omega arith) ∙ sym (u.same t (omega arith) ∙ ap μ (keeps t h)))
          (λ t h l k e. split-low μ (λ t. η (σ t)) (ρ t) (k.maximum l) ∙ sym (u.same t l))
          (λ t h k e. split-high μ (λ t. η (σ t)) (ρ t) (k.minimum h) ∙ ap η e)),
    ),
  )

  pub number-back : {x : ℕ} → Number s os d x → Number s os (rename ρ d) x
  number-back m = number_by d (rename ρ d) m up down

pub number-renamed : {s : State} {os : List ℕ} (d : Tree Atomic) (ρ : ℕ → ℕ) → KindByKind ρ d → {x : ℕ} → Number s os d x → Number s os (rename ρ d) x
number-renamed {s} {os} d ρ k = number-back s os d ρ (back ρ (vars d)) k.low
    (Terms-mono (λ t. first_variable ≤ t → Memᴰ t (vars d)) (λ t. first_variable ≤ t → SameKind t (ρ t) × (back ρ (vars d) (ρ t) ≡ t))
    (λ t i h. (k.kinds t (i h), back-of ρ (vars d) t (i h) (λ v j e. k.single v t j (i h) e))) d (vars-in d))

-- a map that keeps their order makes no two one
pub order-single : (ρ : ℕ → ℕ) (vs : List ℕ) → ((t u : ℕ) → Memᴰ t vs → Memᴰ u vs → t < u → ρ t < ρ u)
    → (t u : ℕ) → Memᴰ t vs → Memᴰ u vs → ρ t ≡ ρ u → t ≡ u
order-single ρ vs order t u i j e = go (cmp t u)
  where
    go : Cmp t u → t ≡ u
    go (below h) = let l = order t u i j h in absurd (omega arith)
    go (equal h) = h
    go (above h) = let l = order u t j i h in absurd (omega arith)
