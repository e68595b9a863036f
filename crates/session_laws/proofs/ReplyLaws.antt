-- Every line keeps a session good (document 01, section 'Text').
use Rattle.std.specs.Prelude.{◌≡◌, false, List, ℕ, drop}
use Rattle.std.proofs.Math.Path.{refl}
use Rattle.std.proofs.Common.{ap, ◌∙◌, arith}
use Rattle.refusal.specs.Outcome.{ok}
use Rattle.mdp.specs.Runs.{a_backup, a_cut, a_reduce}
use Rattle.text.specs.declared.Kind.{Kind}
use Rattle.text.specs.declared.Kind.TheVariants as K
use Rattle.text.specs.Line.{is_bad, Words, GoodLine}
use Rattle.text.specs.Line.Line.{line}
use Rattle.text.specs.LineForm.{line_kind}
use Rattle.text.specs.LineLaws.{line-sound}
use Rattle.events.specs.declared.Event.{Event}
use Rattle.events.specs.Events.{first_word, words_events}
use Rattle.events.specs.Front.{events_of}
use Rattle.events.specs.Contents.{key_in, word_at}
use Rattle.events.specs.LineEvents.{line-events}
use Rattle.session.specs.declared.Part.TheVariants.{Model, Run}
use Rattle.session.specs.declared.Rule.TheVariants as R
use Rattle.session.specs.Place.{rule_of}
use Rattle.session.specs.Session.{Session}
use Rattle.session.specs.ModelLines.{reward_line, variant_line, becomes_line}
use Rattle.session.specs.Replies.{Reply, allowed, done, words_of, reply}
use Rattle.session.specs.Good.{GoodSession}
use Rattle.model_laws.proofs.DeclaringLaws.{constant-good, total-good, discount-good, action-good}
use Rattle.model_laws.proofs.PredicateLaws.{predicate-good}
use Rattle.model_laws.proofs.RewardLaws.{reward-good}
use Rattle.model_laws.proofs.VariantLaws.{variant-good}
use Rattle.model_laws.proofs.BecomesLaws.{becomes-good}
use Rattle.session_laws.proofs.StateLaws.{objects-good, is-good}
use Rattle.session_laws.proofs.FactLaws.{WholeRows, true-good}
use Rattle.session_laws.proofs.ReplayLaws.{did-good}
use Rattle.session_laws.proofs.PlaceLaws.{in-model, in-run, variant-action}
use Rattle.session_laws.proofs.RunLaws.{start-good, called-good}
use Rattle.session_laws.proofs.CaseLaws.{Cases, done-by, reply-by}

-- a line of the kind k that stands where it may, and the events es of its words are those of its tree
pub record Standing (σ : Session) (k : Kind) (es : List Event) : Type 0 where
  pub place : allowed σ (rule_of k σ.part) ≡ ok tt
  pub tree : is_bad k ≡ false → (w : Words k) × GoodLine (line k w) × (es ≡ words_events k w)

-- the events of a line that stands where it may are those of its tree
pub line-standing : (σ : Session) (s : List ℕ) → allowed σ (rule_of (line_kind s) σ.part) ≡ ok tt → Standing σ (line_kind s) (words_of (line_kind s) s)
line-standing σ s a = record {
  place = a;
  tree = λ h.
      let k = line_kind s in
      let x = line-sound s k refl h in
      (x.0, x.1, ap (λ b. events_of (drop (first_word k) b)) x.2 ∙ line-events k x.0 x.1.0);
}

abbrev KeepsGood : Session → List Event → Kind → Reply → Type 0
KeepsGood σ es k y = Standing σ k es → GoodSession y.session

module _ (σ : Session) (g : GoodSession σ) (whole : WholeRows σ.live.facts) where
  -- the part of a line's session, by its place
  model : (k : Kind) {es : List Event} → rule_of k Run ≡ R.Misplaced → Standing σ k es → σ.part ≡ Model
  model k q t = in-model σ (rule_of k) q σ.part t.place

  run : (k : Kind) {es : List Event} → rule_of k Model ≡ R.Misplaced → Standing σ k es → σ.part ≡ Run
  run k q t = in-run σ (rule_of k) q σ.part t.place

  reward : (es : List Event) (τ : Session) → reward_line σ es ≡ ok τ → Standing σ K.Reward es → GoodSession τ
  unfolding is_bad
  reward es τ e t =
      let w = t.tree refl in
      reward-good σ g (model K.Reward refl t) w.0 (omega (arith, w.1.1)) es w.2 τ e

  variant : (es : List Event) (τ : Session) → variant_line σ (key_in (word_at es 0)) (drop 1 es) ≡ ok τ → Standing σ K.Variant es → GoodSession τ
  unfolding is_bad
  variant es τ e t =
      let w = t.tree refl in
      let p = model K.Variant refl t in
      variant-good σ g p _ w.0.1 (omega (arith, w.1.1)) (drop 1 es) (ap (drop 1) w.2) (variant-action σ p t.place) τ e

  becomes : (es : List Event) (τ : Session) → becomes_line σ es ≡ ok τ → Standing σ K.Becomes es → GoodSession τ
  unfolding is_bad
  becomes es τ e t =
      let w = t.tree refl in
      becomes-good σ g (model K.Becomes refl t) w.0.0 w.0.1 w.0.2 (omega (arith, w.1.1)) es w.2 τ e

  cases : (number : ℕ) (es : List Event) → Cases σ number es (KeepsGood σ es)
  cases number es = record {
    refusing = λ k r t. g;
    for_constant = λ n e t. constant-good σ g (model K.Constant refl t) _ n e;
    for_predicate = λ v e t. predicate-good σ g (model K.Predicate refl t) _ _ v e;
    for_total = λ w e t. total-good σ g (model K.Total refl t) _ w e;
    for_discount = λ q e t. discount-good σ g (model K.Discount refl t) _ _ q e;
    for_reward = reward es;
    for_action = λ n e t. action-good σ g (model K.Action refl t) _ _ n e;
    for_variant = variant es;
    for_becomes = becomes es;
    for_start = λ τ e t. start-good σ g (model K.Start refl t) t.place τ e;
    for_objects = λ l e t. objects-good σ g (run K.Objects refl t) _ l e;
    for_is = λ l e t. is-good σ g (run K.Is refl t) _ _ l e;
    for_true = λ l e t. true-good σ g (run K.True refl t) whole _ _ l e;
    for_value = λ v e t. g;
    for_backup = λ h e t. called-good σ g a_backup h e;
    for_cut = λ h row edge left e d t. called-good σ g a_cut h e;
    for_reduce = λ h e t. called-good σ g a_reduce h e;
    for_show = λ t. g;
    for_text = λ n e t. g;
    for_best = λ x e t. g;
    for_count = λ l e t. g;
    for_did = λ l e t. did-good σ g (run K.Did refl t) _ _ _ l e;
  }

  pub done-good : (number : ℕ) (k : Kind) (es : List Event) → Standing σ k es → GoodSession (done σ number k es).session
  done-good number k es = done-by σ number es (KeepsGood σ es) (cases number es) k

  pub reply-good : (number : ℕ) (s : List ℕ) → GoodSession (reply σ number s).session
  reply-good number s =
      reply-by σ number s (λ k y. GoodSession y.session) (λ e. g) (λ r. g) (λ a. done-good number (line_kind s) (words_of (line_kind s) s) (line-standing σ s a))
