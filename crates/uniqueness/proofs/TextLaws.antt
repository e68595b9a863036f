-- Demand 2 for texts: an accepted reward, weight or truth diagram is the only one that means what its tree writes.
use Rattle.std.specs.Prelude.{◌≡◌, true, ◌||◌, ℕ, ◌+◌, ◌≤◌, leb, length, get_or}
use Rattle.std.proofs.Math.Path.{refl, ap, subst}
use Rattle.std.proofs.Common.{sym, ◌∙◌, arith}
use mathlib.Core.List.{List, []}
use Rattle.std.proofs.Math.Dec.{ltb}
use Rattle.refusal.specs.declared.Refusal.TheVariants.{Name, Truth, Space}
use Rattle.refusal.specs.Outcome.{Outcome, ok, refused, Accepted}
use Rattle.refusal.specs.OutcomeLaws.{accepted-ok, accepted-then, accepted-next, accepted-cond}
use Rattle.label.specs.Limits.{parameter_count}
use Rattle.words.specs.Keys.{key_of}
use Rattle.words.specs.declared.Key.{Key}
use Rattle.forms.specs.Tree as T
use Rattle.text.specs.declared.Kind.{Kind}
use Rattle.text.specs.declared.Kind.TheVariants as K
use Rattle.text.specs.Line.{Words, line_bytes, GoodWords, GoodLine}
use Rattle.text.specs.Line.Line.{line}
use Rattle.text.specs.LineLaws.{line-complete}
use Rattle.names.specs.Keys.{place_of, is_among}
use Rattle.events.specs.Events.{diagram_events, words_events}
use Rattle.events.specs.LineEvents.{line-events}
use Rattle.diagram.specs.Diagram.{Diagram}
use Rattle.regression.specs.Regression.{Truths}
use Rattle.regression.specs.RegressCall.{leaf_above}
use Rattle.reading.specs.declared.Binding.{Binding}
use Rattle.reading.specs.declared.Binding.TheVariants.{Any, None, Only}
use Rattle.reading.specs.Reading.{reading, arguments as arguments_met}
use Rattle.reading.specs.Numbering.{met_first, reward_reading}
use Rattle.reading.specs.Head.{Head, opened_number, head_number, head_arguments, head_keys}
use Rattle.reading.specs.OutcomeLaws.{ok-one, passed, chained}
use Rattle.reading.specs.LineLaws.{becomes-arguments}
use Rattle.reading.specs.Inner.{NamesFit}
use Rattle.build.specs.Machine.{most_tests, built, built_closed}
use Rattle.answers.specs.declared.Answer.TheVariants as A
use Rattle.session.specs.Place.{rule_of}
use Rattle.session.specs.Session.{Names, Session}
use Rattle.session.specs.ModelLines.{most_model_rows, names_for, rows_with, reward_read, reward_line, weight_read, variant_line}
use Rattle.session.specs.ModelLines.{is_some, truths_now, with_truth, truth_read, becomes_line}
use Rattle.session.specs.Replies.{Reply, quietly, at_place, allowed, done, reply_to, words_of, reply}
use Rattle.session.specs.Good.{GoodTables, GoodSession}
use Rattle.session.specs.Texts.{beginning, after_lines}
use Rattle.mdp.specs.Model.{most_variants}
use Rattle.session_laws.proofs.TextLaws.{text-sound}
use Rattle.uniqueness.specs.Text.{Writes, WritesClosed, RewardOf, WeightOf, TruthOf, Accepts, behind_line, OnlyOnes}
use Rattle.uniqueness.proofs.WrittenLaws.{resolved, built-writes, built-closed}

-- ===== The words of a line =====

names-fit : (n : Names) (ar : List ℕ) → GoodTables n ar → (b : Binding) (ps : List Key) → length ps ≤ parameter_count → NamesFit (names_for n ar b ps)
names-fit n ar good b ps few =
    record { constants-few = good.constants; predicates-few = good.predicates; parameters-few = few; arity-list = good.arities }

module _ (n : Names) (ar : List ℕ) (good : GoodTables n ar) (rows : ℕ) where
  reward-written : (t : T.Diagram) → T.brackets t ≤ most_tests → Accepted (WritesClosed (names_for n ar Any []) (met_first (diagram_events t)) t)
      (reward_read n ar rows (diagram_events t))
  unfolding reward_read reward_reading
  reward-written t shallow =
      let fit = names-fit n ar good Any [] (omega arith) in
      let vs = met_first (diagram_events t) in
      accepted-next (reading (names_for n ar Any []) (diagram_events t) vs) _ (λ w e.
      accepted-next (built_closed ar w.operations) _ (λ d m.
      accepted-cond (ltb most_model_rows (rows_with rows d)) Space _ (λ few.
      accepted-ok (built-closed (names_for n ar Any []) fit t shallow vs w (resolved (names_for n ar Any []) fit t vs w e) d m))))

  weight-written : (k : Key) (t : T.Diagram) → T.brackets t ≤ most_tests
      → Accepted (Writes (names_for n ar None n.parameters) (arguments_met []) t) (weight_read n ar rows k (diagram_events t))
  unfolding weight_read
  weight-written k t shallow =
      let names = names_for n ar None n.parameters in
      let fit = names-fit n ar good None n.parameters good.parameters in
      accepted-cond (is_among k n.variants) Name _ (λ new.
      accepted-next (reading names (diagram_events t) (arguments_met [])) _ (λ w e.
      accepted-next (built w.operations) _ (λ d m.
      accepted-cond (leb most_variants (length n.variants) || ltb most_model_rows (rows_with rows d)) Space _ (λ few.
      accepted-ok (built-writes names fit t shallow (arguments_met []) w (resolved names fit t (arguments_met []) w e) d m)))))

  -- a truth diagram d of the predicate p
  record Became (w : Words K.Becomes) (p : ℕ) (d : Diagram) : Type 0 where
    declared : is_among (key_of w.0) n.predicates ≡ true
    numbered : place_of (key_of w.0) n.predicates + 1 ≡ p
    arguments : List Key
    head : head_keys (get_or ar p 0) w.1 ≡ ok arguments
    is : Writes (names_for n ar Only n.parameters) (arguments_met arguments) w.2 d

  truth-written : (truths : Truths) (w : Words K.Becomes) → GoodWords K.Becomes w → T.brackets w.2 ≤ most_tests
      → Accepted (λ (x : ℕ × Diagram). Became w x.0 x.1) (truth_read n ar truths rows (words_events K.Becomes w))
  unfolding truth_read head_number opened_number
  truth-written truths w g shallow =
      let names = names_for n ar Only n.parameters in
      let fit = names-fit n ar good Only n.parameters good.parameters in
      accepted-next (head_number n.predicates (words_events K.Becomes w)) _ (λ p i.
      accepted-cond (is_some (truths p)) Name _ (λ new.
      accepted-next (head_arguments (get_or ar p 0) (words_events K.Becomes w)) _ (λ h j.
      accepted-next (reading names h.rest (arguments_met h.variables)) _ (λ u e.
      accepted-next (built u.operations) _ (λ d m.
      accepted-cond (leaf_above 1 d) Truth _ (λ bits.
      accepted-cond (ltb most_model_rows (rows_with rows d)) Space _ (λ few.
      let q = passed (is_among (key_of w.0) n.predicates) (place_of (key_of w.0) n.predicates + 1) Name p i in
      let c = chained (head_keys (get_or ar p 0) w.1) _ h
      (sym (becomes-arguments (get_or ar p 0) w g) ∙ ap (head_arguments (get_or ar p 0)) (line-events K.Becomes w g) ∙ j) in
      let z = ok-one c.then in
      let f : reading names (diagram_events w.2) (arguments_met c.first) ≡ ok u = subst (λ (x : Head). reading names x.rest (arguments_met x.variables) ≡ ok u) (sym z) e in
      accepted-ok (record {
        declared = q.0;
        numbered = q.1;
        arguments = c.first;
        head = c.answers;
        is = built-writes names fit w.2 shallow (arguments_met c.first) u (resolved names fit w.2 (arguments_met c.first) u f) d m;
      }))))))))

-- ===== The session behind a line =====

module _ (σ : Session) (good : GoodSession σ) where
  reward-read : (t : T.Diagram) → T.brackets t ≤ most_tests → Accepted (RewardOf σ t) (reward_line σ (diagram_events t))
  unfolding reward_line
  reward-read t shallow =
      accepted-then (reward_read σ.names σ.model.arities σ.rows (diagram_events t))
      (reward-written σ.names σ.model.arities good.tables σ.rows t shallow)
      (λ d x. accepted-ok (record { diagram = d; behind = refl; is = x }))

  weight-read : (n : List ℕ) (t : T.Diagram) → T.brackets t ≤ most_tests → Accepted (WeightOf σ n t) (variant_line σ (key_of n) (diagram_events t))
  unfolding variant_line
  weight-read n t shallow =
      accepted-then (weight_read σ.names σ.model.arities σ.rows (key_of n) (diagram_events t))
      (weight-written σ.names σ.model.arities good.tables σ.rows (key_of n) t shallow)
      (λ d x. accepted-ok (record { diagram = d; behind = refl; is = x }))

  truth-read : (w : Words K.Becomes) → GoodWords K.Becomes w → T.brackets w.2 ≤ most_tests
      → Accepted (TruthOf σ w.0 w.1 w.2) (becomes_line σ (words_events K.Becomes w))
  unfolding becomes_line
  truth-read w g shallow =
      accepted-then (truth_read σ.names σ.model.arities (truths_now σ.model.actions) σ.rows (words_events K.Becomes w))
      (truth-written σ.names σ.model.arities good.tables σ.rows (truths_now σ.model.actions) w g shallow)
      (λ x b. accepted-ok (record {
        declared = b.declared;
        arguments = b.arguments;
        head = subst (λ (p : ℕ). head_keys (get_or σ.model.arities p 0) w.1 ≡ ok b.arguments) (sym b.numbered) b.head;
        diagram = x.1;
        behind = ap (λ (p : ℕ). with_truth σ p x.1) (sym b.numbered);
        is = b.is;
      }))

-- ===== The reply =====

module _ (σ : Session) (number : ℕ) where
  -- a line in bytes is answered by its kind and its words
  reply-words : (k : Kind) (w : Words k) → GoodLine (line k w) → reply σ number (line_bytes (line k w)) ≡ reply_to σ number k (words_events k w)
  unfolding reply
  reply-words k w g =
      ap (λ (j : Kind). reply_to σ number j (words_of j (line_bytes (line k w)))) (line-complete (line k w) g) ∙ ap (reply_to σ number k) (line-events k w g.0)

  placed-quiet : (p : Outcome (Unit {0})) (o : Outcome Session) → (at_place σ number p (quietly σ number (λ τ. τ) o)).answer ≡ A.Nothing
      → o ≡ ok (at_place σ number p (quietly σ number (λ τ. τ) o)).session
  placed-quiet (ok u) (ok τ) e = refl
  placed-quiet (ok u) (refused r) e = let z : ◌≡◌ {A = ℕ} 0 1 = cc in absurd (omega arith)
  placed-quiet (refused r) o e = let z : ◌≡◌ {A = ℕ} 0 1 = cc in absurd (omega arith)

  -- a line that prints nothing where it is accepted, by its outcome
  accepted-line : (k : Kind) (w : Words k) → GoodLine (line k w) → (o : Outcome Session) → done σ number k (words_events k w) ≡ quietly σ number (λ τ. τ) o
      → (P : Session → Type 0) → Accepted P o → Accepts σ number (line k w) → P (behind_line σ number (line k w))
  unfolding reply_to
  accepted-line k w g o d P a e =
      let r : reply σ number (line_bytes (line k w)) ≡ at_place σ number (allowed σ (rule_of k σ.part)) (quietly σ number (λ τ. τ) o) =
      reply-words k w g ∙ ap (at_place σ number (allowed σ (rule_of k σ.part))) d in
      let q = placed-quiet (allowed σ (rule_of k σ.part)) o (ap (λ (y : Reply). y.answer) (sym r) ∙ e) in
      subst P (ap (λ (y : Reply). y.session) (sym r)) (a.given _ q)

  pub line-only : GoodSession σ → OnlyOnes σ number
  unfolding done
  line-only good = record {
    reward = λ t g. accepted-line K.Reward t g (reward_line σ (diagram_events t)) refl (RewardOf σ t) (reward-read σ good t (omega (arith, g.1)));
    weight = λ w g. accepted-line K.Variant w g (variant_line σ (key_of w.0) (diagram_events w.1)) refl (WeightOf σ w.0 w.1)
        (weight-read σ good w.0 w.1 (omega (arith, g.1)));
    truth = λ w g. accepted-line K.Becomes w g (becomes_line σ (words_events K.Becomes w)) refl (TruthOf σ w.0 w.1 w.2)
        (truth-read σ good w g.0 (omega (arith, g.1)));
  }

-- after whatever lines
pub text-only : (ls : List (List ℕ)) (number : ℕ) → OnlyOnes (after_lines beginning ls).session number
text-only ls number = line-only (after_lines beginning ls).session number (text-sound ls).good
