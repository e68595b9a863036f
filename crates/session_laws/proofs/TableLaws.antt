-- Only (count n) shows a table: the answer to any other line shows none, so that working space is free there (document 02, L11).
use Rattle.std.specs.Prelude.{◌≡◌, refl, ◌≢◌, List, [], ℕ}
use Rattle.text.specs.declared.Kind.{Kind}
use Rattle.text.specs.declared.Kind.TheVariants as K
use Rattle.text.specs.LineForm.{line_kind}
use Rattle.events.specs.declared.Event.{Event}
use Rattle.session.specs.Session.{Session}
use Rattle.session.specs.Replies.{Reply, done, words_of, reply}
use Rattle.session.specs.Texts.{table_of}
use Rattle.session_laws.proofs.CaseLaws.{Cases, done-by, reply-by}

-- whatever session the answer is shown of
abbrev Bare : Kind → Reply → Type 0
Bare k y = k ≢ K.Count → (τ : Session) → table_of τ y.answer ≡ []

bare-cases : (σ : Session) (number : ℕ) (es : List Event) → Cases σ number es Bare
unfolding table_of
bare-cases σ number es = record {
  refusing = λ k r h τ. refl;
  for_constant = λ n e h τ. refl;
  for_predicate = λ v e h τ. refl;
  for_total = λ w e h τ. refl;
  for_discount = λ q e h τ. refl;
  for_reward = λ ρ e h τ. refl;
  for_action = λ n e h τ. refl;
  for_variant = λ ρ e h τ. refl;
  for_becomes = λ ρ e h τ. refl;
  for_start = λ ρ e h τ. refl;
  for_objects = λ l e h τ. refl;
  for_is = λ l e h τ. refl;
  for_true = λ l e h τ. refl;
  for_value = λ v e h τ. refl;
  for_backup = λ x e h τ. refl;
  for_cut = λ x row edge left e d h τ. refl;
  for_reduce = λ x e h τ. refl;
  for_show = λ h τ. refl;
  for_text = λ n e h τ. refl;
  for_best = λ x e h τ. refl;
  for_count = λ l e h τ. absurd (h refl);
  for_did = λ l e h τ. refl;
}

pub done-bare : (σ : Session) (number : ℕ) (k : Kind) (es : List Event) → k ≢ K.Count → (τ : Session) → table_of τ (done σ number k es).answer ≡ []
done-bare σ number k es = done-by σ number es Bare (bare-cases σ number es) k

pub reply-bare : (σ : Session) (number : ℕ) (s : List ℕ) → line_kind s ≢ K.Count → (τ : Session) → table_of τ (reply σ number s).answer ≡ []
unfolding table_of
reply-bare σ number s = reply-by σ number s Bare (λ e h τ. refl) (λ r h τ. refl) (λ a. done-bare σ number (line_kind s) (words_of (line_kind s) s))
