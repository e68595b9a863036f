-- A diagram read in another state of the same objects, without parameters: what regression asks of numbers.
use Rattle.std.specs.Prelude.{◌≡◌, List, [], ℕ, ◌≤◌, ◌<◌}
use Rattle.std.proofs.Common.{sym, ◌∙◌, arith, le_of_eq}
use Rattle.label.specs.Limits.{first_parameter, first_variable}
use Rattle.diagram.specs.Diagram.{Tree}
use Rattle.state.specs.State.{Atomic, State, Good, value, low, fixed, Fits}
use Rattle.state.specs.Terms.{Terms}
use Rattle.state.proofs.ValueLaws.{low-lt, low-ge, by-low, value_same}
use Rattle.state.specs.Highest.{start, Bound}
use Rattle.state.proofs.HighestLaws.{start_fits}
use Rattle.minimum.specs.Inner.{Met}
use Rattle.minimum.specs.Number.{Under, Number}
use Rattle.minimum.proofs.NumberLaws.{number_by}

-- what is no variable as placed with the tuple os, variables by θ
refit : State → List ℕ → (ℕ → ℕ) → ℕ → ℕ
refit s os θ t = low first_variable t (fixed s os t) (θ t)

refit-low : (s : State) (os : List ℕ) (θ : ℕ → ℕ) (t : ℕ) → t < first_variable → refit s os θ t ≡ fixed s os t
unfolding refit
refit-low s os θ t h = low-lt first_variable t (fixed s os t) (θ t) h

refit-high : (s : State) (os : List ℕ) (θ : ℕ → ℕ) (t : ℕ) → first_variable ≤ t → refit s os θ t ≡ θ t
unfolding refit
refit-high s os θ t h = low-ge first_variable t (fixed s os t) (θ t) h

refit-fits : (s : State) (os : List ℕ) (θ : ℕ → ℕ) → Good s → Bound s os → ((t : ℕ) → θ t < s.size) → Fits s os (refit s os θ)
unfolding start
refit-fits s os θ g b r = record {
  low = λ t h. refit-low s os θ t h;
  range = λ t. by-low (refit s os θ t < s.size) first_variable t
      (λ h. rw (refit-low s os θ t h) (rw (low-lt first_variable t (fixed s os t) 0 h) at ((start_fits s os g b).range t)))
      (λ h. rw (refit-high s os θ t h) (r t));
}

-- what is under a refitted valuation, refitted for the first one's tuple, is under that
refit-under : (s s' : State) (os os' : List ℕ) (θ η : ℕ → ℕ) → Good s → Bound s os → ((t : ℕ) → η t < s.size) → Fits s os θ → Under s' os' (refit s' os' θ) η
    → Under s os θ (refit s os η)
refit-under s s' os os' θ η g b r f u = record {
  fits = refit-fits s os η g b r;
  same = λ t h. by-low (refit s os η t ≡ θ t) first_variable t
      (λ l. refit-low s os η t l ∙ sym (f.low t l))
      (λ l. refit-high s os η t l ∙ u.same t h ∙ refit-high s' os' θ t l);
}

fixed-constant : (s : State) (os : List ℕ) (t : ℕ) → t < first_parameter → fixed s os t ≡ s.constant t
unfolding fixed
fixed-constant s os t h = low-lt first_parameter t (s.constant t) _ h

-- s and s' have the same objects and constants, and d has no parameter
module _ (s s' : State) (size : s'.size ≡ s.size) (constants : (c : ℕ) → s'.constant c ≡ s.constant c) (good : Good s) (os : List ℕ) (bound : Bound s os)
    (d r : Tree Atomic) (none : Terms (λ t. first_parameter ≤ t → first_variable ≤ t) d) (leaves : (θ : ℕ → ℕ) → Fits s os θ → value s r θ ≡ value s' d θ) where
  good' : Good s'
  good' = record { some = rw size good.some; placed = λ c. rw (constants c, size) (good.placed c) }

  bound' : Bound s' []
  bound' = record { each = λ i. good'.placed 0 }

  -- refitting does not change the leaf of d
  kept : (θ : ℕ → ℕ) → Fits s' [] θ → value s' d (refit s os θ) ≡ value s' d θ
  kept θ f = value_same (λ t. first_parameter ≤ t → first_variable ≤ t) s' d (refit s os θ) θ none (λ t a. by-low (refit s os θ t ≡ θ t) first_variable t
      (λ h. by-low (refit s os θ t ≡ θ t) first_parameter t
      (λ l. refit-low s os θ t h ∙ fixed-constant s os t l ∙ sym (constants t) ∙ sym (fixed-constant s' [] t l) ∙ sym (f.low t h))
      (λ l. let k = a l in absurd (omega arith)))
      (λ h. refit-high s os θ t h))

  kept' : (θ : ℕ → ℕ) → Fits s os θ → value s' d (refit s' [] θ) ≡ value s' d θ
  kept' θ f = value_same (λ t. first_parameter ≤ t → first_variable ≤ t) s' d (refit s' [] θ) θ none (λ t a. by-low (refit s' [] θ t ≡ θ t) first_variable t
      (λ h. by-low (refit s' [] θ t ≡ θ t) first_parameter t
      (λ l. refit-low s' [] θ t h ∙ fixed-constant s' [] t l ∙ constants t ∙ sym (fixed-constant s os t l) ∙ sym (f.low t h))
      (λ l. let k = a l in absurd (omega arith)))
      (λ h. refit-high s' [] θ t h))

  to : (θ : ℕ → ℕ) → ((t : ℕ) → θ t < s'.size) → (t : ℕ) → θ t < s.size
  to θ h t = rw size at (h t)

  back : (θ : ℕ → ℕ) → ((t : ℕ) → θ t < s.size) → (t : ℕ) → θ t < s'.size
  back θ h t = rw size (h t)

  up : Met (Fits s' []) (Under s' []) (value s' d) (Fits s os) (Under s os) (value s r)
  up θ f = (
    refit s os θ,
    refit-fits s os θ good bound (to θ f.range),
    λ η u. (
      refit s' [] η,
      refit-under s' s [] os θ η good' bound' (back η u.fits.range) f u,
      le_of_eq (kept' η u.fits ∙ sym (leaves η u.fits)),
    ),
  )

  down : Met (Fits s os) (Under s os) (value s r) (Fits s' []) (Under s' []) (value s' d)
  down θ f = (
    refit s' [] θ,
    refit-fits s' [] θ good' bound' (back θ f.range),
    λ η u. (
      refit s os η,
      refit-under s s' os [] θ η good bound (to η u.fits.range) f u,
      le_of_eq (leaves (refit s os η) (refit-fits s os η good bound (to η u.fits.range)) ∙ kept η u.fits),
    ),
  )

  -- r with the tuple os in s says what d says in s'
  pub number-next : {x : ℕ} → Number s' [] d x → Number s os r x
  number-next m = number_by d r m up down
