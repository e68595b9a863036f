-- A backup takes a diagram of the values Mk to one of the values M(k+1).
use Rattle.std.specs.Prelude.{◌≡◌, true, false, ltb, eqb}
use Rattle.std.proofs.Math.Path.{refl, ap}
use Rattle.std.proofs.Common.{sym, ◌∙◌, subst, arith, ltb-false}
use mathlib.Core.List.{List, [], ◌∷◌}
use Prim.Native.Nat.{ℕ, suc, ◌+◌, ◌*◌, ◌^◌, ◌≤◌, ◌<◌, max}
use Rattle.std.proofs.Math.Nat.{zero-add}
use Rattle.basics.specs.Tests.{neither}
use Rattle.refusal.specs.declared.Refusal.TheVariants.{Scale}
use Rattle.refusal.specs.Outcome.{Accepted}
use Rattle.refusal.specs.OutcomeLaws.{accepted-ok, accepted-then, accepted-cond, accepted-mono}
use Rattle.label.specs.Limits.{first_parameter, parameter_count, first_variable}
use Rattle.label.specs.Labels.{are_arities}
use Rattle.diagram.specs.Sizes.{highest_value}
use Rattle.diagram.specs.Diagram.{Diagram, leaf, relabel}
use Rattle.diagram.specs.Listing.{Good as Listed}
use Rattle.diagram.specs.Variables.{closed}
use Rattle.rename.specs.ClosingLaws.{closed-good}
use Rattle.apply.specs.declared.Operation.TheVariants.{Sum, Product, Max}
use Rattle.apply.specs.declared.Names.TheVariants.{Apart, Shared}
use Rattle.apply.proofs.GoodLaws.{fine-every}
use Rattle.state.specs.Max.{Tuple, none, max_tuples, max_of, sum_of}
use Rattle.state.specs.State.{meaning, State, Good, value, fixed, Fits}
use Rattle.state.proofs.ValueLaws.{low-lt, Terms-mono, value_same}
use Rattle.state.specs.Highest.{Bound, start}
use Rattle.state.proofs.HighestLaws.{start_fits, bound-tuple}
use Rattle.state.proofs.NextLaws.{next-good}
use Rattle.minimum.specs.Number.{Number, number}
use Rattle.minimum.proofs.NumberLaws.{number_is, number-scale}
use Rattle.minimum.proofs.ApartLaws.{number-fixed}
use Rattle.regression.specs.Regression.{regressed}
use Rattle.regression.specs.Parameters.{Allowed, Within, GoodTruths, WithinTruths}
use Rattle.regression.specs.Tells.{meanings, Tells}
use Rattle.regression.proofs.TellsLaws.{regressed-tells, regressed-number}
use Rattle.regression.specs.RegressCall.{freed_outcome}
use Rattle.reduction.specs.Claims.{Values}
use Rattle.reduction.proofs.ClosedLaws.{within-closed, closed-number}
use Rattle.mdp.specs.Model.{Variant, Action, Model, scale, Every, GoodVariant, GoodAction, GoodModel}
use Rattle.mdp.specs.Bellman.{weight_in, state_after, reward_in, bellman}
use Rattle.mdp.specs.Backup.{combined, variants_sum, actions_best, highest_scale, most_steps, scale_ends, backup, row_of_calls}
use Rattle.mdp.proofs.CallLaws.{within_more, leaf-listed, leaf-within, leaf-value, shared-made, apart-joined, max-higher, freed-to}

-- ===== Variants =====

pub truths-good : (ar : List ℕ) (c : ℕ) (v : Variant) → GoodVariant ar c v → GoodTruths ar v.truths
truths-good ar c v g = record { each = λ p d h k e. record { labels = fine-every ar d (g.truths p d h k e).listed.fine; bits = (g.truths p d h k e).bits } }

pub truths-within : (ar : List ℕ) (c : ℕ) (v : Variant) → GoodVariant ar c v → WithinTruths c ar v.truths
truths-within ar c v g = record { each = λ p d h k e. (g.truths p d h k e).parameters }

-- a weight is the same at every valuation
weight-same : (ar : List ℕ) (c : ℕ) (v : Variant) → c ≤ parameter_count → GoodVariant ar c v → (s : State) (os : List ℕ) (θ : ℕ → ℕ) → Fits s os θ
    → value s (meaning ar v.weight) θ ≡ weight_in ar s os v
unfolding weight_in start
weight-same ar c v few g s os θ f = value_same (λ t. t < first_parameter + c) s (meaning ar v.weight) θ (start s os) g.weight
    (λ t h. f.low t (omega arith) ∙ sym (low-lt first_variable t (fixed s os t) 0 (omega arith)))

pub weight-within : (ar : List ℕ) (c : ℕ) (v : Variant) → GoodVariant ar c v → Within c (meaning ar v.weight)
weight-within ar c v g = record { terms = Terms-mono (λ t. t < first_parameter + c) (Allowed c) (λ t l k. absurd (omega arith)) (meaning ar v.weight) g.weight }

state_after-good : (ar : List ℕ) (s : State) (os : List ℕ) (v : Variant) → Good s → Good (state_after ar s os v)
unfolding state_after
state_after-good ar s os v g = next-good s os (meanings ar v.truths) g

-- ===== The steps of a backup =====

-- d has the number y in every state, for every tuple of c objects
pub record Has (ar : List ℕ) (c : ℕ) (y : State → List ℕ → ℕ) (d : Diagram) : Type 0 where
  pub listed : Listed ar d
  pub within : Within c (meaning ar d)
  pub numbers : (s : State) → Good s → (os : List ℕ) → Tuple s.size c os → Number s os (meaning ar d) (y s os)

pub leaf-has : (ar : List ℕ) (c x : ℕ) → are_arities ar ≡ true → x ≤ highest_value → Has ar c (λ s os. x) (leaf x)
leaf-has ar c x good h = record {
  listed = leaf-listed ar x good h;
  within = leaf-within c ar x;
  numbers = λ s g os t. subst (λ (y : ℕ). Number s os (meaning ar (leaf x)) y) (leaf-value ar s x (start s os))
      (number-fixed s os (meaning ar (leaf x)) (unfold meaning relabel in tt) (start s os) (start_fits s os g (bound-tuple g t)));
}

pub has_same : {ar : List ℕ} {c : ℕ} {y z : State → List ℕ → ℕ} {d : Diagram} → Has ar c y d → ((s : State) (os : List ℕ) → y s os ≡ z s os) → Has ar c z d
has_same {ar = ar} {d = d} h e = record {
  listed = h.listed;
  within = h.within;
  numbers = λ s g os t. subst (λ (x : ℕ). Number s os (meaning ar d) x) (e s os) (h.numbers s g os t);
}

only-nil : {n : ℕ} {os : List ℕ} → Tuple n 0 os → [] ≡ os
only-nil none = refl

-- without parameters the tuple is empty
has-none : (ar : List ℕ) (y : State → ℕ) (d : Diagram) → Listed ar d → Within 0 (meaning ar d) → ((s : State) → Good s → Number s [] (meaning ar d) (y s))
    → Has ar 0 (λ s os. y s) d
has-none ar y d l w h = record {
  listed = l;
  within = w;
  numbers = λ s g os t. subst (λ (o : List ℕ). Number s o (meaning ar d) (y s)) (only-nil t) (h s g);
}

-- the sum over the variants of the weighted values of the next states
abbrev pub gain : List ℕ → ℕ → (State → ℕ) → State → List ℕ → List Variant → ℕ
gain ar g x s os vs = sum_of vs (λ v. g * weight_in ar s os v * x (state_after ar s os v))

module _ (ar : List ℕ) (good : are_arities ar ≡ true) (g : ℕ) (g-few : g ≤ highest_value) (x : State → ℕ) (d : Diagram) (vals : Values ar x d) where
  regressed-has : (c : ℕ) (v : Variant) → GoodVariant ar c v → (r : Diagram) → Tells ar v.truths d r → Has ar c (λ s os. x (state_after ar s os v)) r
  unfolding state_after
  regressed-has c v gv r tells = record {
    listed = tells.good;
    within = tells.within c (truths-within ar c v gv) (within_more c ar d vals.within);
    numbers = λ s gs os t. regressed-number ar v.truths d r tells vals.within s gs os (bound-tuple gs t) (x (state_after ar s os v))
        (vals.numbers (state_after ar s os v) (state_after-good ar s os v gs));
  }

  pub variants-sum : (c : ℕ) → c ≤ parameter_count → (vs : List Variant) → Every (GoodVariant ar c) vs → (y : State → List ℕ → ℕ) (sum : Diagram) → Has ar c y sum
      → Accepted (Has ar c (λ s os. y s os + gain ar g x s os vs)) (variants_sum ar g d sum vs)
  unfolding variants_sum sum_of
  variants-sum c few [] gs y sum h = accepted-ok (has_same h (λ s os. omega arith))
  variants-sum c few (v ∷ vs) gs y sum h =
      accepted-then (regressed ar v.truths d) (regressed-tells ar v.truths d (truths-good ar c v gs.0) vals.listed) (λ r hr.
      accepted-then (combined Product Shared ar v.weight (leaf g)) (shared-made Product Shared ar v.weight (leaf g) refl gs.0.listed (leaf-listed ar g good g-few)) (λ w hw.
      accepted-then (combined Product Shared ar r w) (shared-made Product Shared ar r w refl hr.good hw.listed) (λ p hp.
      accepted-then (combined Sum Apart ar sum p) (apart-joined Sum Apart ar sum p refl h.listed hp.listed) (λ sum' ha.
      accepted-mono
      (variants-sum c few vs gs.1 (λ s os. y s os + x (state_after ar s os v) * (weight_in ar s os v * g)) sum' (record {
        listed = ha.listed;
        within = ha.within c h.within (hp.within c (regressed-has c v gs.0 r hr).within (hw.within c (weight-within ar c v gs.0) (leaf-within c ar g)));
        numbers = λ s gd os t. ha.numbers s os (y s os) (x (state_after ar s os v) * (weight_in ar s os v * g)) (h.numbers s gd os t)
            (number-scale (meaning ar r) (meaning ar p) (weight_in ar s os v * g) ((regressed-has c v gs.0 r hr).numbers s gd os t) (λ θ f.
            hp.values s θ ∙ ap (λ (n : ℕ). value s (meaning ar r) θ * n) (hw.values s θ ∙ times (weight-same ar c v few gs.0 s os θ f) (leaf-value ar s g θ))));
      }))
      (λ e he. has_same he (λ s os. omega arith))))))
    where
      times : {a b a' b' : ℕ} → a ≡ a' → b ≡ b' → a * b ≡ a' * b'
      times e f = λ i. e i * f i

  actions-best : (l : List Action) → Every (GoodAction ar) l → (z : State → ℕ) (best : Diagram) → Has ar 0 (λ s os. z s) best
      → Accepted (Has ar 0 (λ s os. max (z s) (max_of l (λ a. max_tuples s.size a.count (λ os. gain ar g x s os a.variants))))) (actions_best ar g d best l)
  unfolding actions_best max_of
  actions-best [] gs z best h = accepted-ok (has_same h (λ s os. omega arith))
  actions-best (a ∷ l) gs z best h =
      accepted-then (variants_sum ar g d (leaf 0) a.variants)
      (variants-sum a.count gs.0.few a.variants gs.0.variants (λ s os. 0) (leaf 0) (leaf-has ar a.count 0 good (omega arith))) (λ q hq.
      accepted-then (freed_outcome ar a.count q) (freed-to ar a.count q hq.listed gs.0.few hq.within) (λ f hf.
      accepted-then (combined Max Shared ar best (closed ar f)) (max-higher ar best (closed ar f) h.listed (closed-good ar f hf.listed)) (λ best' hb.
      accepted-mono
      (actions-best l gs.1 (λ s. max (z s) (max_tuples s.size a.count (λ os. gain ar g x s os a.variants))) best' (has-none ar _ best'
      hb.listed
      (hb.within 0 h.within (within-closed 0 ar f hf.listed hf.within))
      (λ s gd. hb.numbers s [] _ _
      (h.numbers s gd [] none)
      (closed-number ar f hf.listed s [] _ (hf.numbers s gd (λ os. gain ar g x s os a.variants)
      (λ os t. (has_same hq (λ s os. zero-add (gain ar g x s os a.variants))).numbers s gd os t))))))
      (λ e he. has_same he (λ s os. omega arith)))))

-- ===== A backup =====

scale-room : (m : Model) (k : ℕ) → scale_ends m k ≡ false → scale m ^ suc k ≤ highest_scale
unfolding scale_ends
scale-room m k e = ltb-false highest_scale (scale m ^ suc k) (neither (ltb highest_scale (scale m ^ suc k)) (eqb k most_steps) e).0

last : (a h p : ℕ) → max 0 a + h * p ≡ p * h + a
last a h p = omega arith

pub bound-none : (s : State) → Good s → Bound s []
bound-none s g = record { each = λ i. g.placed 0 }

-- what a backup makes of the values x: S^(k+1) · M0(s) + the best of the sums of G · weight · x(next state)
abbrev pub stepped : Model → ℕ → (State → ℕ) → State → ℕ
stepped m k x s =
    scale m ^ suc k * reward_in m s
    + max_of m.actions (λ a.
    max_tuples s.size a.count (λ os.
    gain m.arities m.numerator x s os a.variants))

-- whatever values the diagram has
pub backup-steps : (m : Model) → GoodModel m → (k : ℕ) (x : State → ℕ) (d : Diagram) → Values m.arities x d → Accepted (Values m.arities (stepped m k x)) (backup m k d)
unfolding backup row_of_calls reward_in
backup-steps m gm k x d vals =
    let ar = m.arities in
    let p = scale m ^ suc k in
    accepted-cond (scale_ends m k) Scale _ (λ e.
    accepted-then (actions_best ar m.numerator d (leaf 0) m.actions)
    (actions-best ar gm.arities m.numerator (let u = gm.numerator-few in let v = gm.denominator-few in omega arith) x d vals m.actions gm.actions
    (λ s. 0) (leaf 0) (leaf-has ar 0 0 gm.arities (omega arith))) (λ best hb.
    accepted-then (combined Product Shared ar m.reward (leaf p))
    (shared-made Product Shared ar m.reward (leaf p) refl gm.reward-listed (leaf-listed ar p gm.arities (scale-room m k e))) (λ r hr.
    accepted-mono (apart-joined Sum Apart ar best r refl hb.listed hr.listed) (λ c hc. record {
      listed = hc.listed;
      is-closed = hc.is-closed;
      within = hc.within 0 hb.within (hr.within 0 gm.reward (leaf-within 0 ar p));
      numbers = λ s gd. subst (λ (x : ℕ). Number s [] (meaning ar c) x) (last (max_of m.actions _) (number s [] (meaning ar m.reward)) p)
          (hc.numbers s [] _ (number s [] (meaning ar m.reward) * p) (hb.numbers s gd [] none)
          (number-scale (meaning ar m.reward) (meaning ar r) p (number_is s [] gd (bound-none s gd) (meaning ar m.reward))
          (λ θ f. hr.values s θ ∙ ap (λ (n : ℕ). value s (meaning ar m.reward) θ * n) (leaf-value ar s p θ))));
    }))))

-- from Mk to M(k+1)
pub backup-is : (m : Model) → GoodModel m → (k : ℕ) (d : Diagram) → Values m.arities (bellman m k) d → Accepted (Values m.arities (bellman m (suc k))) (backup m k d)
unfolding bellman
backup-is m gm k d vals = backup-steps m gm k (bellman m k) d vals
