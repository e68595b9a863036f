-- (becomes (p ?a ..) DIAGRAM): an accepted one keeps a session good.
use Rattle.std.specs.Prelude.{◌≡◌, false, cond, length, get_or, ltb, eqb}
use Rattle.std.proofs.Common.{sym, ◌∙◌, arith, ltb-false, eqb-true}
use Rattle.std.proofs.Math.Path.{subst}
use mathlib.Core.List.{List}
use Rattle.std.proofs.Math.Option.{some}
use Prim.Native.Nat.{ℕ, ◌+◌, ◌≤◌, ◌<◌}
use Rattle.basics.specs.Tests.{Flag, is_true, is_false, flag}
use Rattle.refusal.specs.declared.Refusal.TheVariants.{Name, Truth, Space}
use Rattle.label.specs.Limits.{first_variable, predicate_count}
use Rattle.words.specs.Keys.{key_of}
use Rattle.forms.specs.Tree as T
use Rattle.text.specs.declared.Kind.TheVariants.{Becomes}
use Rattle.diagram.specs.Diagram.{Diagram}
use Rattle.state.specs.State.{meaning}
use Rattle.state.proofs.ValueLaws.{Terms-mono}
use Rattle.refusal.specs.Outcome.{ok, Accepted}
use Rattle.refusal.specs.OutcomeLaws.{accepted-ok, accepted-then, accepted-cond, accepted-next}
use Rattle.regression.specs.Regression.{Truths}
use Rattle.regression.specs.RegressCall.{leaf_above}
use Rattle.regression.proofs.RegressCallLaws.{above_most}
use Rattle.events.specs.declared.Event.{Event}
use Rattle.events.specs.Events.{diagram_events, words_events}
use Rattle.reading.specs.declared.Binding.TheVariants.{Only}
use Rattle.reading.specs.Reading.{arguments, reading}
use Rattle.reading.specs.Head.{head_number, head_arguments}
use Rattle.reading.specs.Inner.{Named, maximum_reach}
use Rattle.reading.specs.GoodLaws.{named-below}
use Rattle.build.specs.Machine.{most_tests, built}
use Rattle.mdp.specs.Model.{Variant, Action, GoodTruthDiagram, GoodVariant}
use Rattle.session.specs.declared.Part.TheVariants.{Model as ModelPart}
use Rattle.session.specs.Session.{Names, Session}
use Rattle.session.specs.ModelLines.{most_model_rows, names_for, rows_with, with_truth_at, last_variant, truths_now, is_some, with_truth, truth_read, becomes_line}
use Rattle.session.specs.Good.{GoodTables, GoodSession}
use Rattle.model_laws.proofs.SessionLaws.{while-model, parts-with}
use Rattle.model_laws.proofs.ActionLaws.{with_truths, length_last, last-kept, every-last, variants-kept}
use Rattle.model_laws.proofs.DrawnLaws.{Read, read-within}
use Rattle.model_laws.proofs.ReadLaws.{line_read}
use Rattle.model_laws.proofs.HeadLaws.{head-headed}

-- ===== The truth diagram =====

-- its m arguments and the parameters of the action, leaves 0 and 1
truth-read : (ar : List ℕ) (c n m : ℕ) (d : Diagram) → m ≡ n → Read ar c (maximum_reach m) d → leaf_above 1 d ≡ false → GoodTruthDiagram ar c n d
truth-read ar c n m d e r bits = record {
  listed = r.listed;
  bits = above_most 1 d bits;
  parameters = read-within ar c (maximum_reach m) d r;
  arguments = Terms-mono (Named c (maximum_reach m)) (λ t. t < first_variable + n) (λ t h. omega (arith, named-below c m t h)) (meaning ar d) r.terms;
}

-- an accepted truth diagram of the predicate p
record Became (n : Names) (ar : List ℕ) (r p : ℕ) (d : Diagram) : Type 0 where
  good : GoodTruthDiagram ar (length n.parameters) (get_or ar p 0) d
  few : rows_with r d ≤ most_model_rows

became : (n : Names) (ar : List ℕ) → GoodTables n ar → (truths : Truths) (r : ℕ) (p : List ℕ) (vs : List (List ℕ)) (w : T.Diagram) → T.brackets w ≤ most_tests
    → Accepted (λ (t : ℕ × Diagram). Became n ar r t.0 t.1) (truth_read n ar truths r (words_events Becomes (p, vs, w)))
unfolding truth_read
became n ar tables truths r p vs w shallow =
    accepted-next (head_number n.predicates (words_events Becomes (p, vs, w))) _ (λ q i.
    accepted-cond (is_some (truths q)) Name _ (λ new.
    accepted-next (head_arguments (get_or ar q 0) (words_events Becomes (p, vs, w))) _ (λ h j.
    let x = head-headed (get_or ar q 0) (key_of p) vs (diagram_events w) h j in
    accepted-next (reading (names_for n ar Only n.parameters) h.rest (arguments h.variables)) _ (λ u e.
    accepted-next (built u.operations) _ (λ d m.
    accepted-cond (leaf_above 1 d) Truth _ (λ bits.
    accepted-cond (ltb most_model_rows (rows_with r d)) Space _ (λ few.
    let f = subst (λ (es : List Event). reading (names_for n ar Only n.parameters) es (arguments h.variables) ≡ ok u) x.rest e in
    let y = line_read n ar tables w shallow Only (arguments h.variables) u d n.parameters tables.parameters f m in
    accepted-ok
    (record {
      good = truth-read ar (length n.parameters) (get_or ar q 0) (length h.variables) d x.count y bits;
      few = ltb-false most_model_rows (rows_with r d) few;
    }))))))))

-- one truth diagram more
truth-put : (ar : List ℕ) (c p : ℕ) (d : Diagram) → GoodTruthDiagram ar c (get_or ar p 0) d → (v : Variant) → GoodVariant ar c v
    → GoodVariant ar c (with_truths v (λ truths. with_truth_at truths p d))
unfolding with_truth_at
truth-put ar c p d g v h = record { listed = h.listed; weight = h.weight; truths = λ q x l m e. go q x l m e (flag (eqb q p)) }
  where
    go : (q : ℕ) (x : Diagram) → 0 < q → q < predicate_count → cond (eqb q p) (some d) (v.truths q) ≡ some x → Flag (eqb q p) → GoodTruthDiagram ar c (get_or ar q 0) x
    go q x l m e (is_true z) =
        let y : d ≡ x = (let s : some d ≡ some x = rw z at e in cc) in
        subst (GoodTruthDiagram ar c (get_or ar q 0)) y (subst (λ (i : ℕ). GoodTruthDiagram ar c (get_or ar i 0) d) (sym (eqb-true q p z)) g)
    go q x l m e (is_false z) = h.truths q x l m (rw z at e)

-- ===== The line =====

module _ (σ : Session) (good : GoodSession σ) (part : σ.part ≡ ModelPart) where
  pub becomes-good : (p : List ℕ) (vs : List (List ℕ)) (w : T.Diagram) → T.brackets w ≤ most_tests → (es : List Event) → es ≡ words_events Becomes (p, vs, w) → (τ : Session)
      → becomes_line σ es ≡ ok τ → GoodSession τ
  unfolding becomes_line with_truth
  becomes-good p vs w shallow es words = subst (λ (us : List Event). (τ : Session) → becomes_line σ us ≡ ok τ → GoodSession τ) (sym words) accepted.given
    where
      ar : List ℕ
      ar = σ.model.arities

      l : List Action
      l = σ.model.actions

      -- the parameters and the variants of the last action
      c : ℕ
      c = length σ.names.parameters

      n : ℕ
      n = length σ.names.variants

      accepted : Accepted GoodSession (becomes_line σ (words_events Becomes (p, vs, w)))
      accepted =
          accepted-then (truth_read σ.names ar (truths_now l) σ.rows (words_events Becomes (p, vs, w)))
          (became σ.names ar good.tables (truths_now l) σ.rows p vs w shallow) (λ t x.
          let f : Truths → Truths = λ truths. with_truth_at truths t.0 t.1 in
          accepted-ok
          (while-model _ part (good.quiet part) good.log good.tables
          (record { count = omega (arith, good.agreeing.count, length_last f l); last = last-kept f c n l good.agreeing.last; all = good.agreeing.all ∙ sym (variants-kept f l) })
          (parts-with _ σ.singles σ.model ar σ.model.reward (last_variant l f) good.parts good.parts.reward
          (every-last f ar c n (truth-put ar c t.0 t.1 x.good) l good.agreeing.last good.parts.actions))
          x.few))
