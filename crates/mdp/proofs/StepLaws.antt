-- The laws of the definitions, one for each case, as code meets them.
use Rattle.std.specs.Prelude.{◌≡◌, Bool, ◌||◌, List, [], ◌∷◌}
use Rattle.std.proofs.Math.Path.{refl, ap}
use Rattle.std.proofs.Common.{sym, arith}
use Rattle.std.proofs.Math.Bool.{true, false, cond}
use Prim.Native.Nat.{ℕ, suc, ◌+◌, ◌-◌, ◌^◌, ◌≤◌, ◌<◌}
use Rattle.std.proofs.Math.Dec.{ltb, eqb}
use borrow.Author.Tests.{ltb-false, eqb-false}
use Rattle.refusal.specs.declared.Refusal.{Refusal}
use Rattle.refusal.specs.declared.Refusal.TheVariants.{Scale}
use Rattle.refusal.specs.Outcome.{Outcome, ok, refused, and_then}
use Rattle.basics.specs.Tests.{Flag, is_true, is_false, flag}
use Rattle.basics.specs.Members.{clash}
use Rattle.label.specs.Limits.{first_parameter, parameter_count}
use Rattle.diagram.specs.Diagram.{Diagram, leaf}
use Rattle.diagram.specs.Variables.{occurs, closed}
use Rattle.diagram.specs.Listing.{diagram_of}
use Rattle.apply.specs.declared.Operation.{Operation}
use Rattle.apply.specs.declared.Operation.TheVariants.{Sum, Product, Max}
use Rattle.apply.specs.declared.Names.{Names}
use Rattle.apply.specs.declared.Names.TheVariants.{Apart, Shared}
use Rattle.apply.specs.declared.Combined.TheVariants.{Done, Refused}
use Rattle.apply.specs.Combination.{combination, diagram_answer, done_as}
use Rattle.state.specs.State.{meaning}
use Rattle.regression.specs.Regression.{regressed}
use Rattle.regression.specs.Parameters.{Within}
use Rattle.regression.specs.RegressCall.{freed_outcome, free_own}
use Rattle.regression.proofs.RegressCallLaws.{quiet-any}
use Rattle.regression.proofs.FreeCallLaws.{own-freed}
use Rattle.cutting.specs.declared.Edge.{Edge}
use Rattle.cutting.specs.declared.Cut.TheVariants.{Done as CutDone, Refused as CutRefused}
use Rattle.cutting.specs.Cut.{cut_diagram, is_true_edge, diagram_answer as cut_answer}
use Rattle.mdp.specs.Model.{Variant, Action, Model, scale}
use Rattle.mdp.specs.Backup.{combined, variants_sum, actions_best, row_of_calls, highest_scale, most_steps, scale_ends, backup}
use Rattle.mdp.specs.Runs.{Held, cut_outcome, held_with}
use Rattle.mdp.proofs.CallLaws.{each_within}

-- ===== Combination and freeing =====

module _ (op : Operation) (names : Names) (ar : List ℕ) (a b : Diagram) where
  pub combined-done : (n pairs : ℕ) → diagram_answer op (done_as op names ar a b) ar a b ≡ Done n pairs
      → combined op names ar a b ≡ ok (combination op (done_as op names ar a b) ar a b)
  unfolding combined
  combined-done n pairs e = rw e

  pub combined-refused : (r : Refusal) → diagram_answer op (done_as op names ar a b) ar a b ≡ Refused r → combined op names ar a b ≡ refused r
  unfolding combined
  combined-refused r e = rw e

-- freeing's own checks of a listing without a parameter past the count
pub own-within : (ar words : List ℕ) (c : ℕ) → Within c (meaning ar (diagram_of words)) → free_own ar words c ≡ freed_outcome ar c (diagram_of words)
own-within ar words c w =
    own-freed ar words c (quiet-any ar (diagram_of words) (first_parameter + c) (parameter_count - c) (λ t h k. quiet t h k (flag (occurs ar t (diagram_of words)))))
  where
    quiet : (t : ℕ) → first_parameter + c ≤ t → t < first_parameter + c + (parameter_count - c) → Flag (occurs ar t (diagram_of words)) → occurs ar t (diagram_of words) ≡ false
    quiet t h k (is_false q) = q
    quiet t h k (is_true q) = let z = each_within c ar (diagram_of words) w t q h in absurd (omega arith)

-- ===== Backup =====

module _ (ar : List ℕ) (g : ℕ) (d sum : Diagram) where
  pub sum-none : variants_sum ar g d sum [] ≡ ok sum
  unfolding variants_sum
  sum-none = refl

  pub sum-next : (v : Variant) (vs : List Variant) → variants_sum ar g d sum (v ∷ vs) ≡ and_then (regressed ar v.truths d) (λ r.
      and_then (combined Product Shared ar v.weight (leaf g)) (λ w.
      and_then (combined Product Shared ar r w) (λ p.
      and_then (combined Sum Apart ar sum p) (λ sum'.
      variants_sum ar g d sum' vs))))
  unfolding variants_sum
  sum-next v vs = refl

module _ (ar : List ℕ) (g : ℕ) (d best : Diagram) where
  pub best_none : actions_best ar g d best [] ≡ ok best
  unfolding actions_best
  best_none = refl

  pub best-next : (a : Action) (l : List Action) → actions_best ar g d best (a ∷ l) ≡ and_then (variants_sum ar g d (leaf 0) a.variants) (λ q.
      and_then (freed_outcome ar a.count q) (λ f.
      and_then (combined Max Shared ar best (closed ar f)) (λ best'.
      actions_best ar g d best' l)))
  unfolding actions_best
  best-next a l = refl

module _ (m : Model) (k : ℕ) where
  pub on-scale : scale_ends m k ≡ false → (scale m ^ suc k ≤ highest_scale) × (k ≡ most_steps → ⊥)
  unfolding scale_ends
  on-scale e = go (ltb highest_scale (scale m ^ suc k)) refl e
    where
      go : (b : Bool) → ltb highest_scale (scale m ^ suc k) ≡ b → (b || eqb k most_steps) ≡ false → (scale m ^ suc k ≤ highest_scale) × (k ≡ most_steps → ⊥)
      go true q z = clash refl z
      go false q z = (ltb-false highest_scale (scale m ^ suc k) q, eqb-false k most_steps z)

  pub backup-ends : (d : Diagram) → scale_ends m k ≡ true → backup m k d ≡ refused Scale
  unfolding backup
  backup-ends d e = ap (λ (b : Bool). cond b (refused Scale) (row_of_calls m (scale m ^ suc k) d)) e

  pub backup-row : (d : Diagram) → scale_ends m k ≡ false → backup m k d ≡ row_of_calls m (scale m ^ suc k) d
  unfolding backup
  backup-row d e = ap (λ (b : Bool). cond b (refused Scale) (row_of_calls m (scale m ^ suc k) d)) e

-- ===== Runs =====

module _ (ar : List ℕ) (d : Diagram) where
  pub cut-done : (k : ℕ) (e : Edge) (n : ℕ) → cut_answer ar d ≡ CutDone k e n → cut_outcome ar d ≡ ok (cut_diagram ar d k (is_true_edge e))
  unfolding cut_outcome
  cut-done k e n h = rw h

  pub cut-refused : (r : Refusal) → cut_answer ar d ≡ CutRefused r → cut_outcome ar d ≡ refused r
  unfolding cut_outcome
  cut-refused r h = rw h

-- what a call gives, read back
pub held_with_lem : (k : ℕ) (o : Outcome Diagram) {h : Held} → held_with k o ≡ ok h → (o ≡ ok h.diagram) × (h.steps ≡ k)
held_with_lem k (ok d) {h} e =
    let q : ◌≡◌ {A = Held} (record { diagram = d; steps = k }) h = cc in
    (ap (λ (g : Held). ok g.diagram) q, sym (ap (λ (g : Held). g.steps) q))
held_with_lem k (refused r) e = let z : ◌≡◌ {A = ℕ} 0 1 = cc in absurd (omega arith)
