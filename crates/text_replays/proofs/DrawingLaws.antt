-- What each line does to the diagrams of the variants (document 01, section 'Text').
use Rattle.std.specs.Prelude.{◌≡◌, Bool, true, false, ℕ, ◌<◌, drop, leb}
use Rattle.std.proofs.Math.Path.{refl}
use Rattle.std.proofs.Common.{sym, ap, ◌∙◌}
use mathlib.Core.List.{List, [], ◌∷◌, ◌++◌}
use Rattle.std.proofs.Math.ListN.{length}
use Rattle.basics.specs.Members.{clash}
use Rattle.refusal.specs.Outcome.{Outcome, ok}
use Rattle.refusal.specs.OutcomeLaws.{accepted-ok, accepted-next}
use Rattle.diagram.specs.Diagram.{Diagram}
use Rattle.mdp.specs.Model.{Action}
use Rattle.mdp.specs.Runs.{begin}
use Rattle.words.specs.declared.Key.{Key}
use Rattle.text.specs.declared.Kind.{Kind}
use Rattle.text.specs.declared.Kind.TheVariants as K
use Rattle.text.specs.LineForm.{line_kind}
use Rattle.events.specs.declared.Event.{Event}
use Rattle.events.specs.Contents.{key_in, word_at, keys_in}
use Rattle.session.specs.declared.Part.TheVariants.{Run}
use Rattle.session.specs.Place.{rule_of}
use Rattle.session.specs.Session.{Session, with_held}
use Rattle.session.specs.Session as S
use Rattle.session.specs.Declaring.{with_vocabulary, with_total, with_discount, with_action}
use Rattle.session.specs.ModelLines.{with_reward, reward_read, reward_line, add_variant, no_truths, with_variant, weight_read, variant_line}
use Rattle.session.specs.ModelLines.{with_truth_at, last_variant, truths_now, with_truth, truth_read, becomes_line, weighed}
use Rattle.session.specs.Running.{start_line}
use Rattle.session.specs.Replies.{Reply, allowed, words_of, reply}
use Rattle.session_laws.specs.TextRuns.{is_refused}
use Rattle.session_laws.proofs.PlaceLaws.{in-model, becomes-variant}
use Rattle.session_laws.proofs.RunLaws.{made_by}
use Rattle.session_laws.proofs.CaseLaws.{Cases, vocabulary_of, done-by, reply-by}
use Rattle.session_laws.proofs.MadeLaws.{constant_by, predicate-by, action-by, change_of}

-- the kinds that change the actions of the model
abbrev pub drawing : Kind → Bool
drawing k = leb 1 (change_of k)

abbrev pub actions_of : Session → List Action
actions_of σ = σ.model.actions

-- the actions and the last variants' names are those of σ
pub record Same (σ τ : Session) : Type 0 where
  pub actions : actions_of τ ≡ actions_of σ
  pub variants : τ.names.variants ≡ σ.names.variants

-- what is read as a weight, and as a truth diagram
abbrev pub read_weight : Session → List Event → Outcome Diagram
read_weight σ es = weight_read σ.names σ.model.arities σ.rows (key_in (word_at es 0)) (drop 1 es)

abbrev pub read_truth : Session → List Event → Outcome (ℕ × Diagram)
read_truth σ es = truth_read σ.names σ.model.arities (truths_now σ.model.actions) σ.rows es

-- an accepted (action ..) adds an action with no variant, an accepted (variant ..) a variant of the last action with the weight read, an accepted (becomes ..) the diagram read to
-- the last variant, which there is; any other line leaves the actions
pub data ActionsEffect (σ : Session) (es : List Event) (k : Kind) (y : Reply) : Type 0 where
  an-action : k ≡ K.Action → is_refused y.answer ≡ false → actions_of y.session ≡ actions_of σ ++ (record { count = length (keys_in (drop 1 es)); variants = [] } ∷ [])
      → y.session.names.variants ≡ [] → ActionsEffect σ es k y
  a_variant : k ≡ K.Variant → is_refused y.answer ≡ false → (d : Diagram) → read_weight σ es ≡ ok d
      → actions_of y.session ≡ add_variant (actions_of σ) (record { weight = d; truths = no_truths }) → ActionsEffect σ es k y
  a-truth : k ≡ K.Becomes → is_refused y.answer ≡ false → (t : ℕ × Diagram) → read_truth σ es ≡ ok t
      → actions_of y.session ≡ last_variant (actions_of σ) (λ truths. with_truth_at truths t.0 t.1) → 0 < length σ.names.variants → ActionsEffect σ es k y
  leaves : (drawing k ≡ true → is_refused y.answer ≡ true) → Same σ y.session → ActionsEffect σ es k y

never : {A : Type 0} → false ≡ true → A
never e = clash e refl

-- (becomes ..) stands behind a variant
after-variant : (σ : Session) → allowed σ (rule_of K.Becomes σ.part) ≡ ok tt → 0 < length σ.names.variants
after-variant σ a = becomes-variant σ (in-model σ (rule_of K.Becomes) refl σ.part a) a

module _ (σ : Session) (number : ℕ) (es : List Event) where
  abbrev ActionsEffectIn : Kind → Reply → Type 0
  ActionsEffectIn k y = allowed σ (rule_of k σ.part) ≡ ok tt → ActionsEffect σ es k y

  -- the variants of the last action as they were, and those of a new one
  abbrev SameVariants : S.Names → Type 0
  SameVariants n = n.variants ≡ σ.names.variants

  abbrev Begun : S.Names → Type 0
  Begun n = (n.parameters ≡ keys_in (drop 1 es)) × (n.variants ≡ [])

  reward-same : (τ : Session) → reward_line σ es ≡ ok τ → Same σ τ
  unfolding reward_line with_reward
  reward-same τ e = made_by (Same σ) (reward_read σ.names σ.model.arities σ.rows es) (with_reward σ) (λ d. record { actions = refl; variants = refl }) τ e

  start-same : (τ : Session) → start_line σ ≡ ok τ → Same σ τ
  unfolding start_line
  start-same τ e =
      made_by (Same σ) (weighed σ.model.arities σ.model.total σ.model.actions) (λ u. with_held σ Run (begin σ.model))
      (λ u. record { actions = refl; variants = refl }) τ e

  -- one variant more
  abbrev Varied : Session → Type 0
  Varied τ = (d : Diagram) × (read_weight σ es ≡ ok d) × (actions_of τ ≡ add_variant (actions_of σ) (record { weight = d; truths = no_truths }))

  variant-more : (τ : Session) → variant_line σ (key_in (word_at es 0)) (drop 1 es) ≡ ok τ → Varied τ
  unfolding variant_line with_variant
  variant-more τ e = (accepted-next {P = Varied} (read_weight σ es) _ (λ d q. accepted-ok (d, q, refl))).given τ e

  -- one truth diagram more
  abbrev Told : Session → Type 0
  Told τ = (t : ℕ × Diagram) × (read_truth σ es ≡ ok t) × (actions_of τ ≡ last_variant (actions_of σ) (λ truths. with_truth_at truths t.0 t.1))

  truth-more : (τ : Session) → becomes_line σ es ≡ ok τ → Told τ
  unfolding becomes_line with_truth
  truth-more τ e = (accepted-next {P = Told} (read_truth σ es) _ (λ t q. accepted-ok (t, q, refl))).given τ e

  cases : Cases σ number es ActionsEffectIn
  unfolding with_vocabulary with_total with_discount with_action
  cases = record {
    refusing = λ k r a. leaves (λ q. refl) (record { actions = refl; variants = refl });
    for_constant = λ n e a. leaves never (record { actions = refl; variants = constant_by SameVariants σ.names _ refl n e });
    for_predicate = λ v e a. leaves never (record { actions = refl; variants = predicate-by SameVariants (vocabulary_of σ) _ _ refl v e });
    for_total = λ x e a. leaves never (record { actions = refl; variants = refl });
    for_discount = λ q e a. leaves never (record { actions = refl; variants = refl });
    for_reward = λ τ e a. leaves never (reward-same τ e);
    for_action = λ n e a.
        let s = action-by Begun σ.names (key_in (word_at es 0)) (keys_in (drop 1 es)) (refl, refl) n e in
        an-action refl refl (ap (λ (ps : List Key). actions_of σ ++ (record { count = length ps; variants = [] } ∷ [])) s.0) s.1;
    for_variant = λ τ e a. let s = variant-more τ e in a_variant refl refl s.0 s.1 s.2;
    for_becomes = λ τ e a. let s = truth-more τ e in a-truth refl refl s.0 s.1 s.2 (after-variant σ a);
    for_start = λ τ e a. leaves never (start-same τ e);
    for_objects = λ l e a. leaves never (record { actions = refl; variants = refl });
    for_is = λ l e a. leaves never (record { actions = refl; variants = refl });
    for_true = λ l e a. leaves never (record { actions = refl; variants = refl });
    for_value = λ v e a. leaves never (record { actions = refl; variants = refl });
    for_backup = λ h e a. leaves never (record { actions = refl; variants = refl });
    for_cut = λ h row edge left e d a. leaves never (record { actions = refl; variants = refl });
    for_reduce = λ h e a. leaves never (record { actions = refl; variants = refl });
    for_show = λ a. leaves never (record { actions = refl; variants = refl });
    for_text = λ n e a. leaves never (record { actions = refl; variants = refl });
    for_best = λ x e a. leaves never (record { actions = refl; variants = refl });
    for_count = λ l e a. leaves never (record { actions = refl; variants = refl });
    for_did = λ l e a. leaves never (record { actions = refl; variants = refl });
  }

pub effect : (σ : Session) (number : ℕ) (s : List ℕ) → ActionsEffect σ (words_of (line_kind s) s) (line_kind s) (reply σ number s)
unfolding line_kind
effect σ number s =
    let es = words_of (line_kind s) s in
    reply-by σ number s (ActionsEffect σ es) (λ e. leaves (λ q. blank e q) (record { actions = refl; variants = refl }))
    (λ r. leaves (λ q. refl) (record { actions = refl; variants = refl })) (done-by σ number es (ActionsEffectIn σ number es) (cases σ number es) (line_kind s))
  where
    blank : {A : Type 0} → s ≡ [] → drawing (line_kind s) ≡ true → A
    blank e q = never (sym (ap (λ (t : List ℕ). drawing (line_kind t)) e) ∙ q)
