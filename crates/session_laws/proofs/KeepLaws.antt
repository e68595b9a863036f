-- Lines of the run keep names and model; all but (objects n), (is c o), (true p o ..) and (did action variant o ..) keep the state in hand, with count and total; all but
-- (backup), (cut) and (reduce) keep value diagram and k (document 01, section 'Text'; document 02, L10).
use Rattle.std.specs.Prelude.{◌≡◌, refl, true, false, List, [], ◌∷◌, ℕ, suc}
use Rattle.std.proofs.Common.{sym, ◌∙◌, arith}
use Rattle.std.proofs.Math.Option.{some, none}
use Rattle.refusal.specs.Outcome.{ok}
use Rattle.mdp.specs.Runs.{Call}
use Rattle.text.specs.declared.Kind.{Kind}
use Rattle.text.specs.declared.Kind.TheVariants as K
use Rattle.text.specs.LineForm.{line_kind}
use Rattle.events.specs.declared.Event.{Event}
use Rattle.session.specs.declared.Part.TheVariants.{Run}
use Rattle.session.specs.declared.Rule.TheVariants as R
use Rattle.session.specs.Place.{rule_of}
use Rattle.session.specs.Session.{Session}
use Rattle.session.specs.Replies.{Reply, allowed, words_of, reply}
use Rattle.session.specs.Texts.{Progress, has_bytes, replied, after_line, after_lines}
use Rattle.session_laws.specs.Inner.{moves_state, NoStateLine}
use Rattle.session_laws.specs.TextRuns.{call_of}
use Rattle.session_laws.proofs.PlaceLaws.{model-run, in-model}
use Rattle.session_laws.proofs.CaseLaws.{Cases, done-by, reply-by}

-- the session τ behind a line of the kind k, in the run
pub record Keeps (σ : Session) (k : Kind) (τ : Session) : Type 0 where
  pub part : τ.part ≡ Run
  pub model : τ.model ≡ σ.model
  pub names : τ.names ≡ σ.names
  pub live : moves_state k ≡ false → τ.live ≡ σ.live
  pub held : call_of k ≡ none → τ.held ≡ σ.held

module _ (σ : Session) (p : σ.part ≡ Run) (number : ℕ) where
  abbrev InPlace : Kind → Reply → Type 0
  InPlace k y = allowed σ (rule_of k σ.part) ≡ ok tt → Keeps σ k y.session

  -- lines of the model are refused
  elsewhere : {A : Type 0} (k : Kind) → rule_of k Run ≡ R.Misplaced → allowed σ (rule_of k σ.part) ≡ ok tt → A
  elsewhere k q a = model-run (sym (in-model σ (rule_of k) q σ.part a) ∙ p)

  -- all is kept, all but the state, all but what is held
  same : (k : Kind) → Keeps σ k σ
  same k = record { part = p; model = refl; names = refl; live = λ q. refl; held = λ q. refl }

  moved : {A : Type 0} → true ≡ false → A
  moved e = let z : ◌≡◌ {A = ℕ} 0 1 = cc in absurd (omega arith)

  called : {A : Type 0} {c : Call} → some c ≡ none → A
  called e = let z : ◌≡◌ {A = ℕ} 0 1 = cc in absurd (omega arith)

  cases : (es : List Event) → Cases σ number es InPlace
  cases es = record {
    refusing = λ k r a. same k;
    for_constant = λ n e a. elsewhere K.Constant refl a;
    for_predicate = λ v e a. elsewhere K.Predicate refl a;
    for_total = λ x e a. elsewhere K.Total refl a;
    for_discount = λ q e a. elsewhere K.Discount refl a;
    for_reward = λ τ e a. elsewhere K.Reward refl a;
    for_action = λ n e a. elsewhere K.Action refl a;
    for_variant = λ τ e a. elsewhere K.Variant refl a;
    for_becomes = λ τ e a. elsewhere K.Becomes refl a;
    for_start = λ τ e a. elsewhere K.Start refl a;
    for_objects = λ l e a. record { part = p; model = refl; names = refl; live = moved; held = λ q. refl };
    for_is = λ l e a. record { part = p; model = refl; names = refl; live = moved; held = λ q. refl };
    for_true = λ l e a. record { part = p; model = refl; names = refl; live = moved; held = λ q. refl };
    for_value = λ v e a. same K.Value;
    for_backup = λ h e a. record { part = p; model = refl; names = refl; live = λ q. refl; held = called };
    for_cut = λ h row edge left e d a. record { part = p; model = refl; names = refl; live = λ q. refl; held = called };
    for_reduce = λ h e a. record { part = p; model = refl; names = refl; live = λ q. refl; held = called };
    for_show = λ a. same K.Show;
    for_text = λ n e a. same K.Text;
    for_best = λ x e a. same K.Best;
    for_count = λ l e a. same K.Count;
    for_did = λ l e a. record { part = p; model = refl; names = refl; live = moved; held = λ q. refl };
  }

  pub line-keeps : (s : List ℕ) → Keeps σ (line_kind s) (reply σ number s).session
  line-keeps s =
      let es = words_of (line_kind s) s in
      reply-by σ number s (λ k y. Keeps σ k y.session) (λ e. same (line_kind s)) (λ r. same (line_kind s)) (done-by σ number es InPlace (cases es) (line_kind s))

-- the session τ behind lines of the run
pub record Kept (σ : Session) (ls : List (List ℕ)) (τ : Session) : Type 0 where
  pub part : τ.part ≡ Run
  pub model : τ.model ≡ σ.model
  pub names : τ.names ≡ σ.names
  pub live : NoStateLine ls → τ.live ≡ σ.live

pub lines_keep : (q : Progress) → q.session.part ≡ Run → (ls : List (List ℕ)) → Kept q.session ls (after_lines q ls).session
unfolding after_lines after_line
lines_keep q p [] = record { part = p; model = refl; names = refl; live = λ z. refl }
lines_keep q p (s ∷ ls) =
    let a = line-keeps q.session p (suc q.lines) s in
    let b = lines_keep (replied q (has_bytes s) (reply q.session (suc q.lines) s)) a.part ls in
    record { part = b.part; model = b.model ∙ a.model; names = b.names ∙ a.names; live = λ z. b.live z.1 ∙ a.live z.0 }
