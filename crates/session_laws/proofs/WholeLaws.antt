-- Every line leaves the facts whole rows: (true p o ..) adds a row, (objects n) leaves none, (did ..) lists those of the next state, no other line touches them.
use Rattle.std.specs.Prelude.{◌≡◌, refl, List, ℕ}
use Rattle.words.specs.declared.Key.{Key}
use Rattle.refusal.specs.Outcome.{ok}
use Rattle.mdp.specs.Runs.{begin}
use Rattle.text.specs.declared.Kind.{Kind}
use Rattle.text.specs.LineForm.{line_kind}
use Rattle.events.specs.declared.Event.{Event}
use Rattle.session.specs.declared.Part.TheVariants.{Run}
use Rattle.session.specs.Session.{Live, Session, with_held}
use Rattle.session.specs.Declaring.{with_vocabulary, with_total, with_discount, with_action}
use Rattle.session.specs.Facts.{cleared, objects_line, placed, is_line}
use Rattle.session.specs.ModelLines.{with_reward, reward_read, reward_line, with_variant, weight_read, variant_line, truths_now, with_truth, truth_read, becomes_line, weighed}
use Rattle.session.specs.Running.{start_line}
use Rattle.session.specs.Replies.{Reply, words_of, reply}
use Rattle.session_laws.proofs.StateLaws.{objects-kept, is-kept}
use Rattle.session_laws.proofs.FactLaws.{WholeRows, true-whole}
use Rattle.session_laws.proofs.ReplayLaws.{did-whole}
use Rattle.session_laws.proofs.RunLaws.{made_by}
use Rattle.session_laws.proofs.CaseLaws.{Cases, done-by, reply-by}

abbrev KeepsWhole : Kind → Reply → Type 0
KeepsWhole k y = WholeRows y.session.live.facts

objects-whole : (n : ℕ) (l : Live) → objects_line n ≡ ok l → WholeRows l.facts
unfolding cleared
objects-whole n l e = (objects-kept (λ m. WholeRows m.facts) n (λ h. refl)).given l e

module _ (σ : Session) (w : WholeRows σ.live.facts) where
  is_whole : (k : Key) (o : ℕ) (l : Live) → is_line σ.names σ.live k o ≡ ok l → WholeRows l.facts
  unfolding placed
  is_whole k o l e = (is-kept (λ m. WholeRows m.facts) σ.names σ.live k o (λ h. w)).given l e

  reward-whole : (es : List Event) (τ : Session) → reward_line σ es ≡ ok τ → WholeRows τ.live.facts
  unfolding reward_line with_reward
  reward-whole es τ e =
      made_by (λ ρ. WholeRows ρ.live.facts) (reward_read σ.names σ.model.arities σ.rows es) (with_reward σ) (λ d. w) τ e

  variant_whole : (k : Key) (es : List Event) (τ : Session) → variant_line σ k es ≡ ok τ → WholeRows τ.live.facts
  unfolding variant_line with_variant
  variant_whole k es τ e =
      made_by (λ ρ. WholeRows ρ.live.facts) (weight_read σ.names σ.model.arities σ.rows k es) (with_variant σ k) (λ d. w) τ e

  becomes-whole : (es : List Event) (τ : Session) → becomes_line σ es ≡ ok τ → WholeRows τ.live.facts
  unfolding becomes_line with_truth
  becomes-whole es τ e =
      made_by (λ ρ. WholeRows ρ.live.facts) (truth_read σ.names σ.model.arities (truths_now σ.model.actions) σ.rows es)
      (λ t. with_truth σ t.0 t.1) (λ t. w) τ e

  start-whole : (τ : Session) → start_line σ ≡ ok τ → WholeRows τ.live.facts
  unfolding start_line
  start-whole τ e =
      made_by (λ ρ. WholeRows ρ.live.facts) (weighed σ.model.arities σ.model.total σ.model.actions)
      (λ u. with_held σ Run (begin σ.model)) (λ u. w) τ e

  cases : (number : ℕ) (es : List Event) → Cases σ number es KeepsWhole
  unfolding with_vocabulary with_total with_discount with_action
  cases number es = record {
    refusing = λ k r. w;
    for_constant = λ n e. w;
    for_predicate = λ v e. w;
    for_total = λ x e. w;
    for_discount = λ q e. w;
    for_reward = reward-whole es;
    for_action = λ n e. w;
    for_variant = variant_whole _ _;
    for_becomes = becomes-whole es;
    for_start = start-whole;
    for_objects = objects-whole _;
    for_is = is_whole _ _;
    for_true = λ l e. true-whole σ w _ _ l e;
    for_value = λ v e. w;
    for_backup = λ h e. w;
    for_cut = λ h row edge left e d. w;
    for_reduce = λ h e. w;
    for_show = w;
    for_text = λ n e. w;
    for_best = λ x e. w;
    for_count = λ l e. w;
    for_did = λ l e. did-whole σ.model σ.names σ.live _ _ _ l e;
  }

  pub reply-whole : (number : ℕ) (s : List ℕ) → WholeRows (reply σ number s).session.live.facts
  reply-whole number s =
      let es = words_of (line_kind s) s in
      reply-by σ number s KeepsWhole (λ e. w) (λ r. w) (λ a. done-by σ number es KeepsWhole (cases number es) (line_kind s))
