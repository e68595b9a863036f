-- The parts, put together, are the sum over the variants and the best over the actions; and what they give is in range.
use Rattle.std.specs.Prelude.{◌≡◌, true, ℕ, zero, suc, ◌≤◌, ◌<◌}
use Rattle.std.proofs.Math.Path.{refl, sym}
use Rattle.std.proofs.Common.{ap, subst, ◌∙◌, arith}
use mathlib.Core.List.{List, [], ◌∷◌, ◌++◌}
use Rattle.refusal.specs.Outcome.{Outcome, ok, refused, and_then, Accepted}
use Rattle.refusal.specs.OutcomeLaws.{accepted-ok, accepted-then}
use Rattle.label.specs.Labels.{are_arities}
use Rattle.diagram.specs.Sizes.{highest_value}
use Rattle.diagram.specs.Diagram.{Diagram, leaf}
use Rattle.diagram.specs.Listing.{Good}
use Rattle.diagram.specs.Variables.{closed}
use Rattle.apply.specs.declared.Operation.TheVariants.{Sum, Product, Max}
use Rattle.apply.specs.declared.Names.TheVariants.{Apart, Shared}
use Rattle.state.specs.State.{meaning}
use Rattle.state.proofs.ValueLaws.{by-low}
use Rattle.regression.specs.Regression.{regressed}
use Rattle.regression.specs.Parameters.{Within}
use Rattle.regression.proofs.TellsLaws.{regressed-tells}
use Rattle.regression.specs.RegressCall.{freed_outcome}
use Rattle.names.specs.Many.{many}
use Rattle.mdp.specs.Model.{Variant, Action, Every, GoodVariant, GoodAction}
use Rattle.mdp.specs.Backup.{combined, variants_sum, actions_best}
use Rattle.mdp.proofs.StepLaws.{sum-none, sum-next, best_none, best-next}
use Rattle.mdp.proofs.BackupLaws.{truths-good, truths-within, weight-within}
use Rattle.mdp.proofs.CallLaws.{within_more, leaf-listed, leaf-within, shared-made, apart-joined}
use Rattle.planner.specs.Parts.{variant_product, variant_added, freed_up, action_value, action_tried}
use Rattle.steps.specs.GivenLaws.{then-then, then_same}

-- ===== Lists by number =====

every-last : {A : Type 0} (P : A → Type 0) (l : List A) (a : A) → Every P (l ++ (a ∷ [])) → Every P l × P a
every-last P [] a h = (tt, h.0)
every-last P (b ∷ l) a h = let r = every-last P l a h.1 in ((h.0, r.0), r.1)

pub many-every : {A : Type 0} (P : A → Type 0) (f : ℕ → A) (n v : ℕ) → Every P (many f n) → v < n → P (f v)
unfolding many
many-every P f zero v h k = absurd (omega arith)
many-every P f (suc n) v h k =
    let r = every-last P (many f n) (f n) h in
    by-low (P (f v)) n v (λ q. many-every P f n v r.0 q) (λ q. let e : n ≡ v = omega arith in subst (λ (x : ℕ). P (f x)) e r.1)

-- ===== Folds, with one part more at the end =====

module _ {A : Type 0} (all : Diagram → List A → Outcome Diagram) (one : Diagram → A → Outcome Diagram) (none : (d : Diagram) → all d [] ≡ ok d)
    (next : (d : Diagram) (a : A) (l : List A) → all d (a ∷ l) ≡ and_then (one d a) (λ e. all e l)) where
  fold_more : (d : Diagram) (l : List A) (a : A) → all d (l ++ (a ∷ [])) ≡ and_then (all d l) (λ e. one e a)
  fold_more d [] a = next d a [] ∙ last (one d a) ∙ ap (λ (o : Outcome Diagram). and_then o (λ e. one e a)) (sym (none d))
    where
      last : (o : Outcome Diagram) → and_then o (λ e. all e []) ≡ o
      last (ok e) = none e
      last (refused r) = refl
  fold_more d (b ∷ l) a =
      next d b (l ++ (a ∷ []))
      ∙ then_same (one d b) _ _ (λ e. fold_more e l a)
      ∙ sym (then-then (one d b) (λ e. all e l) (λ e. one e a))
      ∙ ap (λ (o : Outcome Diagram). and_then o (λ e. one e a)) (sym (next d b l))

module _ (ar : List ℕ) (g : ℕ) (d : Diagram) where
  sum_added : (sum : Diagram) (v : Variant) (vs : List Variant) → variants_sum ar g d sum (v ∷ vs) ≡ and_then (variant_added ar g d sum v) (λ s. variants_sum ar g d s vs)
  unfolding variant_added variant_product
  sum_added sum v vs = sum-next ar g d sum v vs ∙ sym (
      then-then (and_then (regressed ar v.truths d) (λ r. and_then (combined Product Shared ar v.weight (leaf g)) (λ w. combined Product Shared ar r w)))
      (λ p. combined Sum Apart ar sum p) (λ s. variants_sum ar g d s vs)
      ∙ then-then (regressed ar v.truths d) (λ r. and_then (combined Product Shared ar v.weight (leaf g)) (λ w. combined Product Shared ar r w))
      (λ p. and_then (combined Sum Apart ar sum p) (λ s. variants_sum ar g d s vs))
      ∙ then_same (regressed ar v.truths d) _ _ (λ r.
      then-then (combined Product Shared ar v.weight (leaf g)) (λ w. combined Product Shared ar r w)
      (λ p. and_then (combined Sum Apart ar sum p) (λ s. variants_sum ar g d s vs))))

  -- one variant more, at the end
  pub sum_more : (sum : Diagram) (vs : List Variant) (v : Variant) → variants_sum ar g d sum (vs ++ (v ∷ [])) ≡ and_then (variants_sum ar g d sum vs) (λ s. variant_added ar g d s v)
  sum_more = fold_more (variants_sum ar g d) (variant_added ar g d) (sum-none ar g d) sum_added

  best-tried : (best : Diagram) (a : Action) (l : List Action) → actions_best ar g d best (a ∷ l) ≡ and_then (action_tried ar g d best a) (λ b. actions_best ar g d b l)
  unfolding action_tried action_value freed_up
  best-tried best a l = best-next ar g d best a l ∙ sym (
      then-then (and_then (variants_sum ar g d (leaf 0) a.variants) (λ q. and_then (freed_outcome ar a.count q) (λ f. ok (closed ar f))))
      (λ q. combined Max Shared ar best q) (λ b. actions_best ar g d b l)
      ∙ then-then (variants_sum ar g d (leaf 0) a.variants) (λ q. and_then (freed_outcome ar a.count q) (λ f. ok (closed ar f)))
      (λ q. and_then (combined Max Shared ar best q) (λ b. actions_best ar g d b l))
      ∙ then_same (variants_sum ar g d (leaf 0) a.variants) _ _ (λ q.
      then-then (freed_outcome ar a.count q) (λ f. ok (closed ar f)) (λ q. and_then (combined Max Shared ar best q) (λ b. actions_best ar g d b l))))

  -- one action more, at the end
  pub best-more : (best : Diagram) (l : List Action) (a : Action) → actions_best ar g d best (l ++ (a ∷ [])) ≡ and_then (actions_best ar g d best l) (λ b. action_tried ar g d b a)
  best-more = fold_more (actions_best ar g d) (action_tried ar g d) (best_none ar g d) best-tried

-- ===== Parameters =====

-- a diagram that has a listing, and no parameter from the c-th on
pub record Fit (ar : List ℕ) (c : ℕ) (d : Diagram) : Type 0 where
  pub listed : Good ar d
  pub within : Within c (meaning ar d)

-- the sum over an action's variants has the action's parameters only
module _ (ar : List ℕ) (good : are_arities ar ≡ true) (g : ℕ) (few : g ≤ highest_value) (d : Diagram) (value : Fit ar 0 d) where
  sums-fit : (c : ℕ) (vs : List Variant) → Every (GoodVariant ar c) vs → (sum : Diagram) → Fit ar c sum → Accepted (Fit ar c) (variants_sum ar g d sum vs)
  unfolding variants_sum
  sums-fit c [] gs sum h = accepted-ok h
  sums-fit c (v ∷ vs) gs sum h =
      accepted-then (regressed ar v.truths d) (regressed-tells ar v.truths d (truths-good ar c v gs.0) value.listed) (λ r hr.
      accepted-then (combined Product Shared ar v.weight (leaf g)) (shared-made Product Shared ar v.weight (leaf g) refl gs.0.listed (leaf-listed ar g good few)) (λ w hw.
      accepted-then (combined Product Shared ar r w) (shared-made Product Shared ar r w refl hr.good hw.listed) (λ p hp.
      accepted-then (combined Sum Apart ar sum p) (apart-joined Sum Apart ar sum p refl h.listed hp.listed) (λ sum' ha.
      sums-fit c vs gs.1 sum' (record {
        listed = ha.listed;
        within = ha.within c h.within (hp.within c
            (hr.within c (truths-within ar c v gs.0) (within_more c ar d value.within))
            (hw.within c (weight-within ar c v gs.0) (leaf-within c ar g)));
      })))))

  pub sum_fits : (a : Action) → GoodAction ar a → Accepted (Fit ar a.count) (variants_sum ar g d (leaf 0) a.variants)
  sum_fits a ga = sums-fit a.count a.variants ga.variants (leaf 0) (record { listed = leaf-listed ar 0 good (omega arith); within = leaf-within a.count ar 0 })
