-- Choices for a list of variables: what the computed maxima and minima run over.
use Rattle.std.specs.Prelude.{◌≡◌, refl, ℕ, ◌≤◌, ◌<◌}
use Rattle.std.proofs.Common.{◌∙◌, arith}
use mathlib.Core.List.{List, [], ◌∷◌, Memᴰ}
use Rattle.std.proofs.Math.Nat.{le_refl, le_trans}
use Rattle.label.specs.Limits.{first_variable, first_minimum}
use Rattle.state.specs.Inner.{IsMax}
use Rattle.state.proofs.MaxLaws.{max_to-is}
use Rattle.state.specs.State.{State, Fits}
use Rattle.state.specs.Terms.{Each}
use Rattle.state.proofs.ValueLaws.{Each-mono}
use Rattle.state.specs.Highest.{put, max_vals}
use Rattle.state.proofs.HighestLaws.{put_same, put_other, by-eq, put-fits}
use Rattle.minimum.specs.Min.{IsMin}
use Rattle.minimum.proofs.MinLaws.{min_to-is}
use Rattle.minimum.specs.Number.{Under, min_vals}

-- η is θ with objects below n for the variables of the list
pub data Reach (n : ℕ) : List ℕ → (ℕ → ℕ) → (ℕ → ℕ) → Type 0 where
  done : {θ : ℕ → ℕ} → Reach n [] θ θ
  give : {v : ℕ} {vs : List ℕ} {θ η : ℕ → ℕ} (o : ℕ) → o < n → Reach n vs (put θ v o) η → Reach n (v ∷ vs) θ η

-- a number for each list and valuation that is f with no variable, and else the number of the other variables with some object for the first, is attained: so are the highest
-- and the lowest
module _ {n : ℕ} {f : (ℕ → ℕ) → ℕ} (all : List ℕ → (ℕ → ℕ) → ℕ) (none : (θ : ℕ → ℕ) → f θ ≡ all [] θ)
    (next : (v : ℕ) (vs : List ℕ) (θ : ℕ → ℕ) → (o : ℕ) × (o < n) × (all vs (put θ v o) ≡ all (v ∷ vs) θ)) where
  reach-attains : (vs : List ℕ) (θ : ℕ → ℕ) → (η : ℕ → ℕ) × Reach n vs θ η × (f η ≡ all vs θ)
  reach-attains [] θ = (θ, done, none θ)
  reach-attains (v ∷ vs) θ =
      let o = next v vs θ in
      let r = reach-attains vs (put θ v o.0) in
      (r.0, give o.0 o.1 r.1, r.2 ∙ o.2)

module _ (n : ℕ) (h : 0 < n) (f : (ℕ → ℕ) → ℕ) where
  max_vals-bound : {vs : List ℕ} {θ η : ℕ → ℕ} → Reach n vs θ η → f η ≤ max_vals n vs θ f
  unfolding max_vals
  max_vals-bound (done {θ = θ}) = le_refl (f θ)
  max_vals-bound (give {v = v} {vs = vs} {θ = θ} o l r) = le_trans (max_vals-bound r) ((max_to-is n (λ u. max_vals n vs (put θ v u) f) h).bound o l)

  min_vals-bound : {vs : List ℕ} {θ η : ℕ → ℕ} → Reach n vs θ η → min_vals n vs θ f ≤ f η
  unfolding min_vals
  min_vals-bound (done {θ = θ}) = le_refl (f θ)
  min_vals-bound (give {v = v} {vs = vs} {θ = θ} o l r) = le_trans ((min_to-is n (λ u. min_vals n vs (put θ v u) f) h).bound o l) (min_vals-bound r)

  pub max_vals-reach : (vs : List ℕ) (θ : ℕ → ℕ) → IsMax (Reach n vs θ) f (max_vals n vs θ f)
  unfolding max_vals
  max_vals-reach vs θ =
      let a = reach-attains (λ us μ. max_vals n us μ f) (λ μ. refl)
      (λ v us μ. let top = max_to-is n (λ o. max_vals n us (put μ v o) f) h in (top.point, top.inside, top.value)) vs θ in
      record { point = a.0; inside = a.1; value = a.2; bound = λ η r. max_vals-bound r }

  pub min_vals-reach : (vs : List ℕ) (θ : ℕ → ℕ) → IsMin (Reach n vs θ) f (min_vals n vs θ f)
  unfolding min_vals
  min_vals-reach vs θ =
      let a = reach-attains (λ us μ. min_vals n us μ f) (λ μ. refl)
      (λ v us μ. let low = min_to-is n (λ o. min_vals n us (put μ v o) f) h in (low.point, low.inside, low.value)) vs θ in
      record { point = a.0; inside = a.1; value = a.2; bound = λ η r. min_vals-bound r }

-- such a choice is a valuation, and changes nothing below the list
pub reach-keeps : {n : ℕ} (m : ℕ) {vs : List ℕ} {θ η : ℕ → ℕ} → Reach n vs θ η → Each (λ v. m ≤ v) vs → (t : ℕ) → t < m → η t ≡ θ t
reach-keeps m done w t h = refl
reach-keeps m (give {v = v} {θ = θ} o l r) w t h = reach-keeps m r w.1 t h ∙ put_other θ v o t (λ e. let k = w.0 in omega arith)

pub reach-fits : (s : State) (os : List ℕ) {vs : List ℕ} {θ η : ℕ → ℕ} → Reach s.size vs θ η → Each (λ v. first_variable ≤ v) vs → Fits s os θ → Fits s os η
reach-fits s os done w f = f
reach-fits s os (give {v = v} {θ = θ} o l r) w f = reach-fits s os r w.1 (put-fits s os θ v o w.0 l f)

pub reach-under : (s : State) (os vs : List ℕ) {θ η : ℕ → ℕ} → Reach s.size vs θ η → Each (λ v. first_minimum ≤ v) vs → Fits s os θ → Under s os θ η
reach-under s os vs r w f = record {
  fits = reach-fits s os r (Each-mono (λ v. first_minimum ≤ v) (λ v. first_variable ≤ v) (λ v h. omega arith) vs w) f;
  same = reach-keeps first_minimum r w;
}

-- θ with what η gives the variables of the list
unfoldable pub overlay : List ℕ → (ℕ → ℕ) → (ℕ → ℕ) → ℕ → ℕ
overlay [] θ η = θ
overlay (v ∷ vs) θ η = overlay vs (put θ v (η v)) η

pub overlay-kept : (vs : List ℕ) (θ η : ℕ → ℕ) (t : ℕ) → θ t ≡ η t → overlay vs θ η t ≡ η t
unfolding overlay
overlay-kept [] θ η t e = e
overlay-kept (v ∷ vs) θ η t e = overlay-kept vs (put θ v (η v)) η t
    (by-eq (put θ v (η v) t ≡ η t) v t (λ q. rw (q, put_same θ v (η v)) refl) (λ q. put_other θ v (η v) t q ∙ e))

pub overlay-in : (vs : List ℕ) (θ η : ℕ → ℕ) (t : ℕ) → Memᴰ t vs → overlay vs θ η t ≡ η t
unfolding overlay
overlay-in (v ∷ vs) θ η t (Memᴰ.head e) = overlay-kept vs (put θ v (η v)) η t (rw e (put_same θ v (η v)))
overlay-in (v ∷ vs) θ η t (Memᴰ.tail m) = overlay-in vs (put θ v (η v)) η t m
overlay-in [] θ η t x' = elim x' [ ]

pub overlay-reach : (n : ℕ) (vs : List ℕ) (θ η : ℕ → ℕ) → ((t : ℕ) → η t < n) → Reach n vs θ (overlay vs θ η)
unfolding overlay
overlay-reach n [] θ η h = done
overlay-reach n (v ∷ vs) θ η h = give (η v) (h v) (overlay-reach n vs (put θ v (η v)) η h)
