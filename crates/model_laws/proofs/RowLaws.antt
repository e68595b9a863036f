-- `rows` of a session counts the rows of all model listings: every line of the model keeps that (document 01, section 'Text').
use Rattle.std.specs.Prelude.{◌≡◌, Bool, false, get_or, ltb}
use Rattle.std.proofs.Math.Path.{refl, ap}
use Rattle.std.proofs.Common.{sym, ◌∙◌, ltb-true, eq-eqb, ne_eqb}
use Rattle.std.proofs.Math.Bool.{cond}
use mathlib.Core.List.{List, [], ◌∷◌}
use Rattle.std.proofs.Math.Option.{Option, some, none}
use Prim.Native.Nat.{ℕ, zero, suc, ◌+◌, ◌≤◌, ◌<◌}
use native.Mathlib.Omega.{arith}
use Rattle.std.proofs.Math.ListN.{length}
use Rattle.basics.specs.Tests.{Cmp, below, equal, above, cmp}
use Rattle.refusal.specs.declared.Refusal.TheVariants.{Name, Truth, Space}
use Rattle.label.specs.Limits.{predicate_count}
use Rattle.words.specs.declared.Key.{Key}
use Rattle.names.specs.Keys.{place_of, is_among}
use Rattle.diagram.specs.Diagram.{Diagram}
use Rattle.diagram.specs.Rows.{rows}
use Rattle.state.specs.Max.{sum_of}
use Rattle.regression.specs.Regression.{Truths}
use Rattle.regression.specs.RegressCall.{leaf_above}
use Rattle.refusal.specs.Outcome.{ok, Accepted}
use Rattle.refusal.specs.OutcomeLaws.{accepted-ok, accepted-then, accepted-next, accepted-cond}
use Rattle.mdp.specs.Model.{Variant, Action}
use Rattle.events.specs.declared.Event.{Event}
use Rattle.events.specs.declared.Event.TheVariants as E
use Rattle.reading.specs.declared.Binding.TheVariants.{Only}
use Rattle.reading.specs.Reading.{arguments, reading}
use Rattle.reading.specs.OutcomeLaws.{apart, passed}
use Rattle.reading.specs.Head.{opened_number, head_number, head_arguments}
use Rattle.build.specs.Machine.{built}
use Rattle.session.specs.Session.{Names, Session}
use Rattle.session.specs.Declaring.{with_action}
use Rattle.session.specs.ModelLines.{most_model_rows, names_for, rows_with, with_reward, reward_read, reward_line, add_variant, no_truths, with_variant, weight_read, variant_line}
use Rattle.session.specs.ModelLines.{with_truth_at, last_truths, last_variant, truths_of_last, truths_now, is_some, with_truth, truth_read, becomes_line}
use Rattle.session.specs.Good.{LastAction, GoodSession}
use Rattle.model_laws.specs.ModelRows.{rows_in, truth_rows, variant_rows, action_rows, model_rows, Counted}
use Rattle.model_laws.proofs.ActionLaws.{sum_more}

-- ===== A truth diagram more =====

none_rows : (n : ℕ) → truth_rows n no_truths ≡ 0
unfolding truth_rows rows_in
none_rows zero = refl
none_rows (suc n) = omega (arith, none_rows n)

module _ (truths : Truths) (p : ℕ) (d : Diagram) where
  -- at another predicate
  other-rows : (n : ℕ) → (n ≡ p → ⊥) → rows_in (with_truth_at truths p d n) ≡ rows_in (truths n)
  unfolding with_truth_at
  other-rows n h = ap (λ (b : Bool). rows_in (cond b (some d) (truths n))) (ne_eqb n p h)

  own-rows : (n : ℕ) → n ≡ p → rows_in (with_truth_at truths p d n) ≡ length (rows d)
  unfolding with_truth_at rows_in
  own-rows n h = ap (λ (b : Bool). rows_in (cond b (some d) (truths n))) (eq-eqb n p h)

  below_rows : (n : ℕ) → n ≤ p → truth_rows n (with_truth_at truths p d) ≡ truth_rows n truths
  unfolding truth_rows
  below_rows zero h = refl
  below_rows (suc n) h = omega (arith, below_rows n (omega arith), other-rows n (λ e. omega arith))

  put-rows : truths p ≡ none → (n : ℕ) → p < n → truth_rows n (with_truth_at truths p d) ≡ truth_rows n truths + length (rows d)
  unfolding truth_rows rows_in
  put-rows free zero h = absurd (omega arith)
  put-rows free (suc n) h = go (put-rows free n) (cmp p n)
    where
      go : (p < n → truth_rows n (with_truth_at truths p d) ≡ truth_rows n truths + length (rows d)) → Cmp p n
          → truth_rows n (with_truth_at truths p d) + rows_in (with_truth_at truths p d n) ≡ truth_rows n truths + rows_in (truths n) + length (rows d)
      go ih (below l) = omega (arith, ih l, other-rows n (λ e. omega arith))
      go ih (equal e) =
          let z : rows_in (truths n) ≡ 0 = ap (λ (i : ℕ). rows_in (truths i)) (sym e) ∙ ap rows_in free in
          omega (arith, below_rows n (omega arith), own-rows n (sym e))
      go ih (above l) = absurd (omega arith)

-- ===== The last variant of the last action =====

module _ (p : ℕ) (d : Diagram) (few : p < predicate_count) where
  truths-rows : (l : List Variant) → 1 ≤ length l → truths_of_last l p ≡ none
      → sum_of (last_truths l (λ truths. with_truth_at truths p d)) variant_rows ≡ sum_of l variant_rows + length (rows d)
  unfolding sum_of variant_rows
  truths-rows [] one free = absurd (omega arith)
  truths-rows (v ∷ []) one free = omega (arith, put-rows v.truths p d free predicate_count few)
  truths-rows (v ∷ w ∷ l) one free = omega (arith, truths-rows (w ∷ l) (omega arith) free)

  last-rows : (c n : ℕ) (l : List Action) → LastAction l c n → 1 ≤ n → truths_now l p ≡ none
      → sum_of (last_variant l (λ truths. with_truth_at truths p d)) action_rows ≡ sum_of l action_rows + length (rows d)
  unfolding sum_of action_rows
  last-rows c n [] h one free = absurd (omega arith)
  last-rows c n (a ∷ []) h one free = omega (arith, truths-rows a.variants (omega (arith, h.1)) free)
  last-rows c n (a ∷ b ∷ l) h one free = omega (arith, last-rows c n (b ∷ l) h one free)

added-rows : (v : Variant) (l : List Action) → 1 ≤ length l → sum_of (add_variant l v) action_rows ≡ sum_of l action_rows + variant_rows v
unfolding sum_of action_rows
added-rows v [] one = absurd (omega arith)
added-rows v (a ∷ []) one = omega (arith, sum_more variant_rows a.variants v)
added-rows v (a ∷ b ∷ l) one = omega (arith, added-rows v (b ∷ l) (omega arith))

-- ===== The predicate of (becomes) =====

-- it is declared
pub number-few : (ks : List Key) (es : List Event) (p : ℕ) → head_number ks es ≡ ok p → p ≤ length ks
unfolding head_number opened_number is_among
number-few ks [] p e = absurd (apart e)
number-few ks (E.Holds k n ∷ es) p e =
    let c = passed (is_among k ks) (place_of k ks + 1) Name p e in
    let s = ltb-true (place_of k ks) (length ks) c.0 in
    omega (arith, c.1)
number-few ks (E.Name k ∷ es) p e = absurd (apart e)
number-few ks (E.Variable k ∷ es) p e = absurd (apart e)
number-few ks (E.Parameter k ∷ es) p e = absurd (apart e)
number-few ks (E.Minimum k ∷ es) p e = absurd (apart e)
number-few ks (E.Number v ∷ es) p e = absurd (apart e)
number-few ks (E.Equal ∷ es) p e = absurd (apart e)
number-few ks (E.Step ∷ es) p e = absurd (apart e)
number-few ks (E.End ∷ es) p e = absurd (apart e)

is_none : (o : Option Diagram) → is_some o ≡ false → o ≡ none
is_none none e = refl
is_none (some d) e = let z : ◌≡◌ {A = ℕ} 0 1 = cc in absurd (omega arith)

-- it has no truth diagram yet
record Free (n : Names) (truths : Truths) (p : ℕ) : Type 0 where
  few : p ≤ length n.predicates
  free : truths p ≡ none

truth-free : (n : Names) (ar : List ℕ) (truths : Truths) (r : ℕ) (es : List Event) → Accepted (λ (t : ℕ × Diagram). Free n truths t.0) (truth_read n ar truths r es)
unfolding truth_read
truth-free n ar truths r es =
    accepted-next (head_number n.predicates es) _ (λ p i.
    accepted-cond (is_some (truths p)) Name _ (λ new.
    accepted-next (head_arguments (get_or ar p 0) es) _ (λ h j.
    accepted-next (reading (names_for n ar Only n.parameters) h.rest (arguments h.variables)) _ (λ u e.
    accepted-next (built u.operations) _ (λ d m.
    accepted-cond (leaf_above 1 d) Truth _ (λ bits.
    accepted-cond (ltb most_model_rows (rows_with r d)) Space _ (λ small.
    accepted-ok (record { few = number-few n.predicates es p i; free = is_none (truths p) new }))))))))

-- ===== Lines =====

module _ (σ : Session) (h : Counted σ) where
  pub reward-counted : σ.singles.reward ≡ false → (es : List Event) (τ : Session) → reward_line σ es ≡ ok τ → Counted τ
  unfolding reward_line with_reward model_rows
  reward-counted new es = accepted.given
    where
      none_yet : cond σ.singles.reward (length (rows σ.model.reward)) 0 ≡ 0
      none_yet = ap (λ (b : Bool). cond b (length (rows σ.model.reward)) 0) new

      put : (d : Diagram) → Counted (with_reward σ d)
      put d = omega (arith, h, none_yet)

      accepted : Accepted Counted (reward_line σ es)
      accepted = accepted-next (reward_read σ.names σ.model.arities σ.rows es) _ (λ d e. accepted-ok (put d))

  pub action-counted : (n : Names) → Counted (with_action σ n)
  unfolding with_action model_rows action_rows sum_of
  action-counted n = omega (arith, h, sum_more action_rows σ.model.actions (record { count = length n.parameters; variants = [] }))

  module _ (g : GoodSession σ) where
    pub variant-counted : 1 ≤ length σ.names.actions → (k : Key) (es : List Event) (τ : Session) → variant_line σ k es ≡ ok τ → Counted τ
    unfolding variant_line with_variant model_rows variant_rows
    variant-counted one k es = accepted.given
      where
        put : (d : Diagram) → Counted (with_variant σ k d)
        put d =
            omega (
              arith,
              h,
              none_rows predicate_count,
              added-rows (record { weight = d; truths = no_truths }) σ.model.actions (omega (arith, g.agreeing.count)),
            )

        accepted : Accepted Counted (variant_line σ k es)
        accepted = accepted-next (weight_read σ.names σ.model.arities σ.rows k es) _ (λ d e. accepted-ok (put d))

    pub becomes-counted : 1 ≤ length σ.names.variants → (es : List Event) (τ : Session) → becomes_line σ es ≡ ok τ → Counted τ
    unfolding becomes_line with_truth model_rows
    becomes-counted one es = accepted.given
      where
        l : List Action
        l = σ.model.actions

        put : (p : ℕ) (d : Diagram) → Free σ.names (truths_now l) p → Counted (with_truth σ p d)
        put p d x =
            omega (
              arith,
              h,
              last-rows p d (omega (arith, x.few, g.tables.predicates)) (length σ.names.parameters) (length σ.names.variants) l
                  g.agreeing.last one x.free,
            )

        accepted : Accepted Counted (becomes_line σ es)
        accepted =
            accepted-then (truth_read σ.names σ.model.arities (truths_now l) σ.rows es)
            (truth-free σ.names σ.model.arities (truths_now l) σ.rows es) (λ t x. accepted-ok (put t.0 t.1 x))
