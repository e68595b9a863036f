-- `rows` of a session is the sum of the rows of all model listings, behind every line (document 01, section 'Text').
use Rattle.std.specs.Prelude.{◌≡◌, List, ℕ}
use Rattle.std.proofs.Math.Path.{refl}
use Rattle.refusal.specs.Outcome.{ok}
use Rattle.state.specs.Max.{sum_of}
use Rattle.mdp.specs.Runs.{begin}
use Rattle.text.specs.declared.Kind.{Kind}
use Rattle.text.specs.declared.Kind.TheVariants as K
use Rattle.text.specs.LineForm.{line_kind}
use Rattle.events.specs.declared.Event.{Event}
use Rattle.session.specs.declared.Part.TheVariants.{Run}
use Rattle.session.specs.Place.{rule_of}
use Rattle.session.specs.Session.{Session, opening, with_held}
use Rattle.session.specs.Declaring.{with_vocabulary, with_total, with_discount}
use Rattle.session.specs.ModelLines.{weighed}
use Rattle.session.specs.Running.{start_line}
use Rattle.session.specs.Replies.{Reply, allowed, words_of, reply}
use Rattle.session.specs.Good.{GoodSession}
use Rattle.model_laws.specs.ModelRows.{model_rows, Counted}
use Rattle.model_laws.proofs.RowLaws.{reward-counted, action-counted, variant-counted, becomes-counted}
use Rattle.session_laws.proofs.PlaceLaws.{in-model, reward-new, variant-action, becomes-variant}
use Rattle.session_laws.proofs.RunLaws.{made_by}
use Rattle.session_laws.proofs.CaseLaws.{Cases, done-by, reply-by}

pub opening-counted : Counted opening
unfolding opening model_rows sum_of
opening-counted = refl

abbrev KeepsCounted : Session → Kind → Reply → Type 0
KeepsCounted σ k y = allowed σ (rule_of k σ.part) ≡ ok tt → Counted y.session

module _ (σ : Session) (g : GoodSession σ) (h : Counted σ) where
  start-counted : (τ : Session) → start_line σ ≡ ok τ → Counted τ
  unfolding start_line
  start-counted τ e =
      made_by Counted (weighed σ.model.arities σ.model.total σ.model.actions) (λ u. with_held σ Run (begin σ.model)) (λ u. h) τ e

  cases : (number : ℕ) (es : List Event) → Cases σ number es (KeepsCounted σ)
  unfolding with_vocabulary with_total with_discount model_rows
  cases number es = record {
    refusing = λ k r a. h;
    for_constant = λ n e a. h;
    for_predicate = λ v e a. h;
    for_total = λ x e a. h;
    for_discount = λ q e a. h;
    for_reward = λ τ e a. reward-counted σ h (reward-new σ (in-model σ (rule_of K.Reward) refl σ.part a) a) es τ e;
    for_action = λ n e a. action-counted σ h n;
    for_variant = λ τ e a. variant-counted σ h g (variant-action σ (in-model σ (rule_of K.Variant) refl σ.part a) a) _ _ τ e;
    for_becomes = λ τ e a. becomes-counted σ h g (becomes-variant σ (in-model σ (rule_of K.Becomes) refl σ.part a) a) es τ e;
    for_start = λ τ e a. start-counted τ e;
    for_objects = λ l e a. h;
    for_is = λ l e a. h;
    for_true = λ l e a. h;
    for_value = λ v e a. h;
    for_backup = λ x e a. h;
    for_cut = λ x row edge left e d a. h;
    for_reduce = λ x e a. h;
    for_show = λ a. h;
    for_text = λ n e a. h;
    for_best = λ x e a. h;
    for_count = λ l e a. h;
    for_did = λ l e a. h;
  }

  pub reply-counted : (number : ℕ) (s : List ℕ) → Counted (reply σ number s).session
  reply-counted number s =
      let es = words_of (line_kind s) s in
      reply-by σ number s (λ k y. Counted y.session) (λ e. h) (λ r. h) (done-by σ number es (KeepsCounted σ) (cases number es) (line_kind s))
