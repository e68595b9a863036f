-- (variant n WEIGHT): an accepted one keeps a session good.
use Rattle.std.specs.Prelude.{◌≡◌, ◌||◌, length, leb, ltb}
use Rattle.std.proofs.Common.{sym, arith, leb-false, ltb-false}
use Rattle.std.proofs.Math.Path.{subst}
use mathlib.Core.List.{List, []}
use Prim.Native.Nat.{ℕ, ◌+◌, ◌≤◌, ◌<◌}
use Rattle.basics.specs.Tests.{Cmp, below, equal, above, cmp, neither}
use Rattle.refusal.specs.declared.Refusal.TheVariants.{Name, Space}
use Rattle.label.specs.Limits.{first_parameter, first_variable}
use Rattle.words.specs.declared.Key.{Key}
use Rattle.names.specs.Keys.{is_among}
use Rattle.forms.specs.Tree as T
use Rattle.diagram.specs.Diagram.{Diagram}
use Rattle.state.specs.State.{meaning}
use Rattle.state.specs.Terms.{Terms}
use Rattle.state.proofs.ValueLaws.{Terms-mono}
use Rattle.refusal.specs.Outcome.{ok, Accepted}
use Rattle.refusal.specs.OutcomeLaws.{accepted-ok, accepted-then, accepted-cond, accepted-next}
use Rattle.events.specs.declared.Event.{Event}
use Rattle.events.specs.Events.{diagram_events}
use Rattle.reading.specs.declared.Binding.TheVariants.{None}
use Rattle.reading.specs.Reading.{arguments, reading}
use Rattle.reading.specs.Inner.{Named, maximum_reach}
use Rattle.reading.specs.GoodLaws.{named-below}
use Rattle.build.specs.Machine.{most_tests, built}
use Rattle.mdp.specs.Model.{Variant, Action, GoodVariant, most_variants}
use Rattle.session.specs.declared.Part.TheVariants.{Model as ModelPart}
use Rattle.session.specs.Session.{Names, Session}
use Rattle.session.specs.ModelLines.{most_model_rows, names_for, rows_with, add_variant, no_truths, with_variant, weight_read, variant_line}
use Rattle.session.specs.Good.{GoodTables, LastAction, GoodSession}
use Rattle.model_laws.proofs.SessionLaws.{while-model, parts-with}
use Rattle.model_laws.proofs.ActionLaws.{length_more, length-added, last-added, every-added, variants-added, variants-most}
use Rattle.model_laws.proofs.DrawnLaws.{Read}
use Rattle.model_laws.proofs.ReadLaws.{line_read}

-- ===== The weight =====

-- no variable, and the parameters of the action
weight-terms : (ar : List ℕ) (c : ℕ) (d : Diagram) → Read ar c (maximum_reach 0) d → Terms (λ t. t < first_parameter + c) (meaning ar d)
weight-terms ar c d r =
    Terms-mono (Named c (maximum_reach 0)) (λ t. t < first_parameter + c) (λ t h. low t (named-below c 0 t h) h.parameters (cmp t (first_parameter + c))) (meaning ar d) r.terms
  where
    low : (t : ℕ) → t < first_variable + 0 → (first_parameter + c ≤ t → first_variable ≤ t) → Cmp t (first_parameter + c) → t < first_parameter + c
    low t v p (below h) = h
    low t v p (equal h) = absurd (omega (arith, p (omega arith)))
    low t v p (above h) = absurd (omega (arith, p (omega arith)))

abbrev weighted : Diagram → Variant
weighted d = record { weight = d; truths = no_truths }

weight-good : (ar : List ℕ) (c : ℕ) (d : Diagram) → Read ar c (maximum_reach 0) d → GoodVariant ar c (weighted d)
weight-good ar c d r = record {
  listed = r.listed;
  weight = weight-terms ar c d r;
  truths = λ p x h k e. absurd (let z : ◌≡◌ {A = ℕ} 0 1 = cc in omega arith);
}

-- an accepted weight
record Weighed (n : Names) (ar : List ℕ) (r : ℕ) (d : Diagram) : Type 0 where
  good : GoodVariant ar (length n.parameters) (weighted d)
  room : length n.variants < most_variants
  few : rows_with r d ≤ most_model_rows

weighed : (n : Names) (ar : List ℕ) → GoodTables n ar → (r : ℕ) (k : Key) (w : T.Diagram) → T.brackets w ≤ most_tests → Accepted (Weighed n ar r) (weight_read n ar r k (diagram_events w))
unfolding weight_read
weighed n ar tables r k w shallow =
    accepted-cond (is_among k n.variants) Name _ (λ new.
    accepted-next (reading (names_for n ar None n.parameters) (diagram_events w) (arguments [])) _ (λ u e.
    accepted-next (built u.operations) _ (λ d m.
    accepted-cond (leb most_variants (length n.variants) || ltb most_model_rows (rows_with r d)) Space _ (λ z.
    let q = neither (leb most_variants (length n.variants)) _ z in
    accepted-ok
    (record {
      good = weight-good ar (length n.parameters) d (line_read n ar tables w shallow None (arguments []) u d n.parameters tables.parameters e m);
      room = leb-false most_variants (length n.variants) q.0;
      few = ltb-false most_model_rows (rows_with r d) q.1;
    })))))

-- ===== The line =====

module _ (σ : Session) (good : GoodSession σ) (part : σ.part ≡ ModelPart) where
  pub variant-good : (k : Key) (w : T.Diagram) → T.brackets w ≤ most_tests → (es : List Event) → es ≡ diagram_events w → 1 ≤ length σ.names.actions → (τ : Session)
      → variant_line σ k es ≡ ok τ → GoodSession τ
  unfolding variant_line with_variant
  variant-good k w shallow es words some = subst (λ (us : List Event). (τ : Session) → variant_line σ k us ≡ ok τ → GoodSession τ) (sym words) accepted.given
    where
      ar : List ℕ
      ar = σ.model.arities

      l : List Action
      l = σ.model.actions

      tables : GoodTables σ.names ar
      tables = good.tables

      -- the parameters and the variants of the last action
      c : ℕ
      c = length σ.names.parameters

      n : ℕ
      n = length σ.names.variants

      some-action : 1 ≤ length l
      some-action = omega (arith, good.agreeing.count)

      accepted : Accepted GoodSession (variant_line σ k (diagram_events w))
      accepted =
          accepted-then (weight_read σ.names ar σ.rows k (diagram_events w)) (weighed σ.names ar tables σ.rows k w shallow) (λ d x.
          let v : Variant = weighted d in
          let m = length_more σ.names.variants k in
          let q = variants-added v l some-action in
          let e = every-added v ar c n x.room x.good l good.agreeing.last good.parts.actions in
          accepted-ok
          (while-model _ part (good.quiet part) good.log
          (record {
            constants = tables.constants;
            predicates = tables.predicates;
            actions = tables.actions;
            parameters = tables.parameters;
            variants = omega (arith, m, x.room);
            earlier = omega (arith, m, good.agreeing.all, good.agreeing.count, tables.actions, length-added v l, q, variants-most ar (add_variant l v) e);
            arities = tables.arities;
            undeclared = tables.undeclared;
          })
          (record {
            count = omega (arith, good.agreeing.count, length-added v l);
            last = subst (LastAction (add_variant l v) c) (sym m) (last-added v c n l some-action good.agreeing.last);
            all = omega (arith, m, good.agreeing.all, q);
          })
          (parts-with _ σ.singles σ.model ar σ.model.reward (add_variant l v) good.parts good.parts.reward e)
          x.few))
