-- Every line keeps a session's parts declared (document 01, section 'Text').
use Rattle.std.proofs.Math.Path.{◌≡◌, refl, subst}
use Rattle.std.proofs.Common.{sym, ap, arith, get_or-set_other}
use Rattle.std.specs.Prelude.{◌||◌, ℕ, suc, ◌≤◌, length, get_or, set, drop, eqb}
use Rattle.std.proofs.Math.Bool.{cond}
use mathlib.Core.List.{List, [], ◌∷◌, ◌++◌}
use Rattle.std.proofs.Math.Option.{some}
use Rattle.std.proofs.Math.Dec.{ltb, leb}
use Rattle.basics.specs.Tests.{Flag, is_true, is_false, flag, neither}
use Rattle.refusal.specs.declared.Refusal.TheVariants.{Name, Range, Truth, Space}
use Rattle.refusal.specs.Outcome.{Outcome, ok, Accepted}
use Rattle.refusal.specs.OutcomeLaws.{accepted-ok, accepted-refused, accepted-then, accepted-next, accepted-cond}
use Rattle.label.specs.Limits.{constant_count, predicate_count, parameter_count, most_places}
use Rattle.words.specs.Keys.{key_of}
use Rattle.words.specs.declared.Key.{Key}
use Rattle.names.specs.Keys.{is_among}
use Rattle.forms.specs.Tree as T
use Rattle.text.specs.declared.Kind.{Kind}
use Rattle.text.specs.declared.Kind.TheVariants as K
use Rattle.text.specs.Line.{is_bad}
use Rattle.text.specs.LineForm.{line_kind}
use Rattle.events.specs.declared.Event.{Event}
use Rattle.events.specs.Events.{diagram_events, words_events}
use Rattle.events.specs.Contents.{key_in, word_at}
use Rattle.diagram.specs.Diagram.{Diagram}
use Rattle.regression.specs.Regression.{Truths}
use Rattle.regression.specs.RegressCall.{leaf_above}
use Rattle.cutting.specs.declared.Cut.{Cut}
use Rattle.cutting.specs.declared.Cut.TheVariants as C
use Rattle.cutting.specs.Cut.{diagram_answer, is_true_edge}
use Rattle.reduction.specs.Reduction.{reduce_answer}
use Rattle.mdp.specs.Model.{Variant, Action, Every, most_variants, most_actions}
use Rattle.mdp.specs.Backup.{backup}
use Rattle.mdp.specs.Runs.{Call, a_backup, a_cut, a_reduce, Held, leaves, cut_outcome, held_with, call, begin}
use Rattle.mdp.proofs.StepLaws.{held_with_lem}
use Rattle.reading.specs.declared.Binding.{Binding}
use Rattle.reading.specs.declared.Binding.TheVariants.{Any, None, Only}
use Rattle.reading.specs.Reading.{arguments, reading}
use Rattle.reading.specs.Numbering.{met_first, reward_reading}
use Rattle.reading.specs.Head.{head_number, head_arguments}
use Rattle.reading.specs.Inner.{NamesFit}
use Rattle.build.specs.Machine.{most_tests, built, built_closed}
use Rattle.session.specs.declared.Part.TheVariants.{Model, Run}
use Rattle.session.specs.declared.Rule.TheVariants as R
use Rattle.session.specs.Place.{rule_of}
use Rattle.session.specs.Session.{Names, Session, with_names, with_held}
use Rattle.session.specs.Declaring.{is_declared, constant_line, Vocabulary, predicate_line, with_vocabulary, with_total, with_discount, repeated, action_line, with_action}
use Rattle.session.specs.ModelLines.{most_model_rows, names_for, rows_with, with_reward, reward_read, reward_line, add_variant, no_truths, with_variant, weight_read, variant_line}
use Rattle.session.specs.ModelLines.{with_truth_at, last_truths, last_variant, truths_now, is_some, with_truth, truth_read, becomes_line, weighed}
use Rattle.session.specs.Running.{start_line}
use Rattle.session.specs.Replies.{Reply, words_of, reply}
use Rattle.session.specs.Good.{GoodTables, GoodSession}
use Rattle.model_laws.proofs.ActionLaws.{length_more, every_more, with_truths}
use Rattle.model_laws.proofs.HeadLaws.{head-headed}
use Rattle.session_laws.proofs.PlaceLaws.{in-run}
use Rattle.session_laws.proofs.ReplyLaws.{Standing, line-standing}
use Rattle.session_laws.proofs.RunLaws.{made_by}
use Rattle.session_laws.proofs.CaseLaws.{Cases, vocabulary_of, done-by, reply-by}
use Rattle.declared.specs.Inner.{Declares, DeclaredVariant, DeclaredAction, NameKey, DeclaredSession}
use Rattle.declared.proofs.NameLaws.{name-is-key, keys-more}
use Rattle.declared.proofs.GrowthLaws.{declares-grown, actions-grown}
use Rattle.declared.proofs.ReadLaws.{text-declares, reward-declares}
use Rattle.declared.proofs.BackupLaws.{backup-declared, cut-declared, reduce-declared}

-- ===== (constant) and (predicate): more names =====

module _ (σ : Session) (h : DeclaredSession σ) (k : Key) (name : NameKey k) where
  constant-declared : (n : Names) → constant_line σ.names k ≡ ok n → DeclaredSession (with_names σ n)
  unfolding constant_line is_declared
  constant-declared = accepted.given
    where
      cs : List Key
      cs = σ.names.constants

      ps : List Key
      ps = σ.names.predicates

      ar : List ℕ
      ar = σ.model.arities

      more : length cs ≤ length (cs ++ (k ∷ []))
      more = omega (arith, length_more cs k)

      accepted : Accepted (λ (n : Names). DeclaredSession (with_names σ n)) (constant_line σ.names k)
      accepted =
          accepted-cond (is_among k cs || is_among k ps) Name _ (λ new.
          accepted-cond (leb constant_count (length cs)) Space _ (λ room.
          accepted-ok (record {
            constants = keys-more cs k h.constants name (neither (is_among k cs) (is_among k ps) new).0;
            predicates = h.predicates;
            in-reward = declares-grown ar ar (length cs) _ (length ps) _ more (omega arith) (λ i e. refl) σ.model.reward h.in-reward;
            in-actions = actions-grown ar ar (length cs) _ (length ps) _ more (omega arith) (λ i e. refl) σ.model.actions h.in-actions;
            in-value = declares-grown ar ar (length cs) _ (length ps) _ more (omega arith) (λ i e. refl) σ.held.diagram h.in-value;
          })))

  predicate-declared : (a : ℕ) (v : Vocabulary) → predicate_line (vocabulary_of σ) k a ≡ ok v → DeclaredSession (with_vocabulary σ v)
  unfolding predicate_line is_declared with_vocabulary
  predicate-declared a = accepted.given
    where
      cs : List Key
      cs = σ.names.constants

      ps : List Key
      ps = σ.names.predicates

      ar : List ℕ
      ar = σ.model.arities

      br : List ℕ
      br = set ar (suc (length ps)) a

      more : length ps ≤ length (ps ++ (k ∷ []))
      more = omega (arith, length_more ps k)

      same : (i : ℕ) → i ≤ length ps → get_or br i 0 ≡ get_or ar i 0
      same i l = get_or-set_other ar (suc (length ps)) i a 0 (λ e. omega arith)

      accepted : Accepted (λ (v : Vocabulary). DeclaredSession (with_vocabulary σ v)) (predicate_line (vocabulary_of σ) k a)
      accepted =
          accepted-cond (is_among k cs || is_among k ps) Name _ (λ new.
          accepted-cond (ltb most_places a) Range _ (λ range.
          accepted-cond (leb predicate_count (suc (length ps))) Space _ (λ room.
          accepted-ok (record {
            constants = h.constants;
            predicates = keys-more ps k h.predicates name (neither (is_among k cs) (is_among k ps) new).1;
            in-reward = declares-grown ar br (length cs) _ (length ps) _ (omega arith) more same σ.model.reward h.in-reward;
            in-actions = actions-grown ar br (length cs) _ (length ps) _ (omega arith) more same σ.model.actions h.in-actions;
            in-value = declares-grown ar br (length cs) _ (length ps) _ (omega arith) more same σ.held.diagram h.in-value;
          }))))

-- ===== (action), (reward), (variant), (becomes): more diagrams =====

module _ (σ : Session) (h : DeclaredSession σ) where
  -- the names declared, and diagrams that name only these
  abbrev Named : Diagram → Type 0
  Named d = Declares σ.model.arities (length σ.names.constants) (length σ.names.predicates) d

  abbrev NamedVariant : Variant → Type 0
  NamedVariant v = DeclaredVariant σ.model.arities (length σ.names.constants) (length σ.names.predicates) v

  abbrev NamedActions : List Action → Type 0
  NamedActions l = Every (DeclaredAction σ.model.arities (length σ.names.constants) (length σ.names.predicates)) l

  action-declared : (k : Key) (ps : List Key) (n : Names) → action_line σ.names k ps ≡ ok n → DeclaredSession (with_action σ n)
  unfolding action_line with_action
  action-declared k ps = accepted.given
    where
      accepted : Accepted (λ (n : Names). DeclaredSession (with_action σ n)) (action_line σ.names k ps)
      accepted =
          accepted-cond (is_among k σ.names.actions || repeated [] ps) Name _ (λ new.
          accepted-cond (ltb parameter_count (length ps) || leb most_actions (length σ.names.actions)) Space _ (λ room.
          accepted-ok (record {
            constants = h.constants;
            predicates = h.predicates;
            in-reward = h.in-reward;
            in-actions = every_more _ σ.model.actions _ h.in-actions tt;
            in-value = h.in-value;
          })))

  module _ (good : GoodTables σ.names σ.model.arities) where
    names-fit : (b : Binding) (ps : List Key) → length ps ≤ parameter_count → NamesFit (names_for σ.names σ.model.arities b ps)
    names-fit b ps few = record { constants-few = good.constants; predicates-few = good.predicates; parameters-few = few; arity-list = good.arities }

    reward-read : (r : ℕ) (d : T.Diagram) → T.brackets d ≤ most_tests → Accepted Named (reward_read σ.names σ.model.arities r (diagram_events d))
    unfolding reward_read reward_reading
    reward-read r d shallow =
        let vs = met_first (diagram_events d) in
        accepted-next (reading (names_for σ.names σ.model.arities Any []) (diagram_events d) vs) _ (λ w e.
        accepted-next (built_closed σ.model.arities w.operations) _ (λ x m.
        accepted-cond (ltb most_model_rows (rows_with r x)) Space _ (λ few.
        accepted-ok (reward-declares (names_for σ.names σ.model.arities Any []) (names-fit Any [] (omega arith)) d shallow vs w e x m))))

    weight-read : (r : ℕ) (k : Key) (d : T.Diagram) → T.brackets d ≤ most_tests → Accepted Named (weight_read σ.names σ.model.arities r k (diagram_events d))
    unfolding weight_read
    weight-read r k d shallow =
        accepted-cond (is_among k σ.names.variants) Name _ (λ new.
        accepted-next (reading (names_for σ.names σ.model.arities None σ.names.parameters) (diagram_events d) (arguments [])) _ (λ w e.
        accepted-next (built w.operations) _ (λ x m.
        accepted-cond (leb most_variants (length σ.names.variants) || ltb most_model_rows (rows_with r x)) Space _ (λ few.
        accepted-ok
        (text-declares (names_for σ.names σ.model.arities None σ.names.parameters) (names-fit None σ.names.parameters good.parameters) d shallow (arguments []) w e x m)))))

    truth-read : (truths : Truths) (r : ℕ) (n : List ℕ) (vs : List (List ℕ)) (d : T.Diagram) → T.brackets d ≤ most_tests
        → Accepted (λ (t : ℕ × Diagram). Named t.1) (truth_read σ.names σ.model.arities truths r (words_events K.Becomes (n, vs, d)))
    unfolding truth_read
    truth-read truths r n vs d shallow =
        let ar = σ.model.arities in
        accepted-next (head_number σ.names.predicates (words_events K.Becomes (n, vs, d))) _ (λ q i.
        accepted-cond (is_some (truths q)) Name _ (λ new.
        accepted-next (head_arguments (get_or ar q 0) (words_events K.Becomes (n, vs, d))) _ (λ a j.
        let y = head-headed (get_or ar q 0) (key_of n) vs (diagram_events d) a j in
        accepted-next (reading (names_for σ.names ar Only σ.names.parameters) a.rest (arguments a.variables)) _ (λ w e.
        accepted-next (built w.operations) _ (λ x m.
        accepted-cond (leaf_above 1 x) Truth _ (λ bits.
        accepted-cond (ltb most_model_rows (rows_with r x)) Space _ (λ few.
        let f = subst (λ (es : List Event). reading (names_for σ.names ar Only σ.names.parameters) es (arguments a.variables) ≡ ok w) y.rest e in
        accepted-ok
        (text-declares (names_for σ.names ar Only σ.names.parameters) (names-fit Only σ.names.parameters good.parameters) d shallow (arguments a.variables) w f x m))))))))

    reward-line : (es : List Event) (d : T.Diagram) → T.brackets d ≤ most_tests → es ≡ diagram_events d → (τ : Session) → reward_line σ es ≡ ok τ → DeclaredSession τ
    unfolding reward_line with_reward
    reward-line es d shallow words =
        subst (λ (us : List Event). (τ : Session) → reward_line σ us ≡ ok τ → DeclaredSession τ) (sym words)
        (accepted-then (reward_read σ.names σ.model.arities σ.rows (diagram_events d)) (reward-read σ.rows d shallow) (λ x w.
        accepted-ok (record { constants = h.constants; predicates = h.predicates; in-reward = w; in-actions = h.in-actions; in-value = h.in-value }))).given

    variant-line : (k : Key) (es : List Event) (d : T.Diagram) → T.brackets d ≤ most_tests → es ≡ diagram_events d → (τ : Session) → variant_line σ k es ≡ ok τ → DeclaredSession τ
    unfolding variant_line with_variant
    variant-line k es d shallow words =
        subst (λ (us : List Event). (τ : Session) → variant_line σ k us ≡ ok τ → DeclaredSession τ) (sym words)
        (accepted-then (weight_read σ.names σ.model.arities σ.rows k (diagram_events d)) (weight-read σ.rows k d shallow) (λ x w.
        accepted-ok (record {
          constants = h.constants;
          predicates = h.predicates;
          in-reward = h.in-reward;
          in-actions = added (record { weight = x; truths = no_truths }) (weighted x w) σ.model.actions h.in-actions;
          in-value = h.in-value;
        }))).given
      where
        weighted : (x : Diagram) → Named x → NamedVariant (record { weight = x; truths = no_truths })
        weighted x w = record { weight = w; truths = λ q y e. absurd (let z : ◌≡◌ {A = ℕ} 0 1 = cc in omega arith) }

        added : (v : Variant) → NamedVariant v → (l : List Action) → NamedActions l → NamedActions (add_variant l v)
        added v w [] g = tt
        added v w (a ∷ []) g = (every_more _ a.variants v g.0 w, tt)
        added v w (a ∷ b ∷ l) g = (g.0, added v w (b ∷ l) g.1)

    -- one truth diagram more in a variant
    truth-put : (p : ℕ) (d : Diagram) → Named d → (v : Variant) → NamedVariant v → NamedVariant (with_truths v (λ truths. with_truth_at truths p d))
    unfolding with_truth_at
    truth-put p d w v g = record { weight = g.weight; truths = λ q x e. go q x e (flag (eqb q p)) }
      where
        go : (q : ℕ) (x : Diagram) → cond (eqb q p) (some d) (v.truths q) ≡ some x → Flag (eqb q p) → Named x
        go q x e (is_true z) = let y : d ≡ x = (let s : some d ≡ some x = rw z at e in cc) in subst Named y w
        go q x e (is_false z) = g.truths q x (rw z at e)

    becomes-line : (es : List Event) (n : List ℕ) (vs : List (List ℕ)) (d : T.Diagram) → T.brackets d ≤ most_tests → es ≡ words_events K.Becomes (n, vs, d) → (τ : Session)
        → becomes_line σ es ≡ ok τ → DeclaredSession τ
    unfolding becomes_line with_truth
    becomes-line es n vs d shallow words =
        subst (λ (us : List Event). (τ : Session) → becomes_line σ us ≡ ok τ → DeclaredSession τ) (sym words)
        (accepted-then (truth_read σ.names σ.model.arities (truths_now σ.model.actions) σ.rows (words_events K.Becomes (n, vs, d)))
        (truth-read (truths_now σ.model.actions) σ.rows n vs d shallow) (λ t w.
        accepted-ok (record {
          constants = h.constants;
          predicates = h.predicates;
          in-reward = h.in-reward;
          in-actions = last (λ truths. with_truth_at truths t.0 t.1) (truth-put t.0 t.1 w) σ.model.actions h.in-actions;
          in-value = h.in-value;
        }))).given
      where
        last-truths : (f : Truths → Truths) → ((v : Variant) → NamedVariant v → NamedVariant (with_truths v f)) → (l : List Variant)
            → Every (DeclaredVariant σ.model.arities (length σ.names.constants) (length σ.names.predicates)) l
            → Every (DeclaredVariant σ.model.arities (length σ.names.constants) (length σ.names.predicates)) (last_truths l f)
        last-truths f w [] g = tt
        last-truths f w (v ∷ []) g = (w v g.0, tt)
        last-truths f w (v ∷ u ∷ l) g = (g.0, last-truths f w (u ∷ l) g.1)

        last : (f : Truths → Truths) → ((v : Variant) → NamedVariant v → NamedVariant (with_truths v f)) → (l : List Action) → NamedActions l → NamedActions (last_variant l f)
        last f w [] g = tt
        last f w (a ∷ []) g = (last-truths f w a.variants g.0, tt)
        last f w (a ∷ b ∷ l) g = (g.0, last f w (b ∷ l) g.1)

  -- ===== (start) and the run: another value diagram =====

  -- a line of the run that leaves the session but for the value diagram: this is all that it owes
  pub held-declared : (x : Held) → Named x.diagram → DeclaredSession (with_held σ σ.part x)
  held-declared x w = record { constants = h.constants; predicates = h.predicates; in-reward = h.in-reward; in-actions = h.in-actions; in-value = w }

  -- a value diagram that a call answers
  pub answered-declared : (o : Outcome Diagram) (k : ℕ) (x : Held) → Accepted Named o → held_with k o ≡ ok x → DeclaredSession (with_held σ σ.part x)
  answered-declared o k x a e = held-declared x (a.given x.diagram (held_with_lem k o e).0)

  start-declared : (τ : Session) → start_line σ ≡ ok τ → DeclaredSession τ
  unfolding start_line begin
  start-declared τ e =
      made_by DeclaredSession (weighed σ.model.arities σ.model.total σ.model.actions) (λ u. with_held σ Run (begin σ.model))
      (λ u. record { constants = h.constants; predicates = h.predicates; in-reward = h.in-reward; in-actions = h.in-actions; in-value = h.in-reward }) τ e

  module _ (good : GoodSession σ) (run : σ.part ≡ Run) where
    -- a backup, a cut or a reduction
    call-declared : (c : Call) (x : Held) → call σ.model c σ.held ≡ ok x → DeclaredSession (with_held σ σ.part x)
    unfolding call cut_outcome
    call-declared a_backup x e =
        let b = good.begun run in
        answered-declared (backup σ.model σ.held.steps σ.held.diagram) (suc σ.held.steps) x
        (backup-declared σ.model (length σ.names.constants) (length σ.names.predicates) b.good σ.held.diagram b.value h.in-value
        h.in-reward h.in-actions σ.held.steps) e
    call-declared a_cut x e = answered-declared (cut_outcome σ.model.arities σ.held.diagram) σ.held.steps x (go (diagram_answer σ.model.arities σ.held.diagram)) e
      where
        go : (q : Cut) → Accepted Named (leaves σ.model.arities σ.held.diagram q)
        go (C.Done k d n) =
            let b = good.begun run in
            accepted-ok
            (cut-declared σ.model (length σ.names.constants) (length σ.names.predicates) b.good σ.held.diagram b.value h.in-value k (is_true_edge d))
        go (C.Refused r) = accepted-refused
    call-declared a_reduce x e =
        let b = good.begun run in
        answered-declared (reduce_answer σ.model.arities σ.held.diagram) σ.held.steps x
        (reduce-declared σ.model (length σ.names.constants) (length σ.names.predicates) b.good σ.held.diagram b.value h.in-value) e

-- ===== Any line =====

abbrev Keeps : Session → List Event → Kind → Reply → Type 0
Keeps σ es k y = Standing σ k es → DeclaredSession y.session

module _ (σ : Session) (good : GoodSession σ) (h : DeclaredSession σ) where
  run : (k : Kind) {es : List Event} → rule_of k Model ≡ R.Misplaced → Standing σ k es → σ.part ≡ Run
  run k q t = in-run σ (rule_of k) q σ.part t.place

  -- the first word of a declaration is a name
  constant-key : (es : List Event) → Standing σ K.Constant es → NameKey (key_in (word_at es 0))
  unfolding is_bad
  constant-key es t = let w = t.tree refl in subst (λ (us : List Event). NameKey (key_in (word_at us 0))) (sym w.2) (name-is-key w.0 w.1.0)

  predicate-key : (es : List Event) → Standing σ K.Predicate es → NameKey (key_in (word_at es 0))
  unfolding is_bad
  predicate-key es t = let w = t.tree refl in subst (λ (us : List Event). NameKey (key_in (word_at us 0))) (sym w.2) (name-is-key w.0.0 w.1.0.0)

  reward : (es : List Event) (τ : Session) → reward_line σ es ≡ ok τ → Standing σ K.Reward es → DeclaredSession τ
  unfolding is_bad
  reward es τ e t = let w = t.tree refl in reward-line σ h good.tables es w.0 (omega (arith, w.1.1)) w.2 τ e

  variant : (es : List Event) (τ : Session) → variant_line σ (key_in (word_at es 0)) (drop 1 es) ≡ ok τ → Standing σ K.Variant es → DeclaredSession τ
  unfolding is_bad
  variant es τ e t =
      let w = t.tree refl in
      variant-line σ h good.tables (key_in (word_at es 0)) (drop 1 es) w.0.1 (omega (arith, w.1.1)) (ap (drop 1) w.2) τ e

  becomes : (es : List Event) (τ : Session) → becomes_line σ es ≡ ok τ → Standing σ K.Becomes es → DeclaredSession τ
  unfolding is_bad
  becomes es τ e t = let w = t.tree refl in becomes-line σ h good.tables es w.0.0 w.0.1 w.0.2 (omega (arith, w.1.1)) w.2 τ e

  -- one line for each kind
  cases : (number : ℕ) (es : List Event) → Cases σ number es (Keeps σ es)
  unfolding with_total with_discount
  cases number es = record {
    refusing = λ k r t. h;
    for_constant = λ n e t. constant-declared σ h _ (constant-key es t) n e;
    for_predicate = λ v e t. predicate-declared σ h _ (predicate-key es t) _ v e;
    for_total = λ w e t. h;
    for_discount = λ q e t. h;
    for_reward = reward es;
    for_action = λ n e t. action-declared σ h _ _ n e;
    for_variant = variant es;
    for_becomes = becomes es;
    for_start = λ τ e t. start-declared σ h τ e;
    for_objects = λ l e t. h;
    for_is = λ l e t. h;
    for_true = λ l e t. h;
    for_value = λ v e t. h;
    for_backup = λ x e t. call-declared σ h good (run K.Backup refl t) a_backup x e;
    for_cut = λ x row edge left e d t. call-declared σ h good (run K.Cut refl t) a_cut x e;
    for_reduce = λ x e t. call-declared σ h good (run K.Reduce refl t) a_reduce x e;
    for_show = λ t. h;
    for_text = λ n e t. h;
    for_best = λ x e t. h;
    for_count = λ l e t. h;
    for_did = λ l e t. h;
  }

  pub reply-declared : (number : ℕ) (s : List ℕ) → DeclaredSession (reply σ number s).session
  reply-declared number s =
      let es = words_of (line_kind s) s in
      reply-by σ number s (λ k y. DeclaredSession y.session) (λ e. h) (λ r. h) (λ a. done-by σ number es (Keeps σ es) (cases number es) (line_kind s) (line-standing σ s a))
