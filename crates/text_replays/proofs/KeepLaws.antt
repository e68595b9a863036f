-- What each line leaves of the state in hand, of count and total (document 01, section 'Text'; document 02, L10).
use Rattle.std.specs.Prelude.{◌≡◌, Bool, true, false, not, ◌&&◌, ◌||◌, cond, List, [], ℕ, length, get_or, eqb, leb}
use Rattle.std.proofs.Math.Path.{refl}
use Rattle.std.proofs.Common.{sym, ap, ◌∙◌, ltb-true}
use Rattle.basics.specs.Tests.{and_right, only-first}
use Rattle.basics.specs.Members.{clash}
use Rattle.refusal.specs.declared.Refusal.TheVariants.{Name, Arity, Range, Space}
use Rattle.refusal.specs.Outcome.{ok, Accepted}
use Rattle.refusal.specs.OutcomeLaws.{accepted-ok, accepted-cond}
use Rattle.diagram.specs.WordLaws.{below-every}
use Rattle.state.specs.Lent.{fact_count, all_below, most_facts, fact_row}
use Rattle.mdp.specs.Model.{Model}
use Rattle.mdp.specs.Runs.{begin}
use Rattle.words.specs.declared.Key.{Key}
use Rattle.names.specs.Keys.{place_of, is_among}
use Rattle.text.specs.declared.Kind.{Kind}
use Rattle.text.specs.declared.Kind.TheVariants as K
use Rattle.text.specs.LineForm.{line_kind}
use Rattle.events.specs.declared.Event.{Event}
use Rattle.session.specs.declared.Part.TheVariants.{Model as ModelPart, Run}
use Rattle.session.specs.declared.Rule.TheVariants as R
use Rattle.session.specs.Place.{rule_of}
use Rattle.session.specs.Session.{Names, Live, Session, with_held, refuse_if}
use Rattle.session.specs.Declaring.{with_vocabulary, with_total, with_discount, with_action}
use Rattle.session.specs.Facts.{cleared, objects_line, placed, is_line, is_fact, with_fact, begun_again, fact_line, predicate_of, true_line}
use Rattle.session.specs.ModelLines.{with_reward, reward_read, reward_line, with_variant, weight_read, variant_line, truths_now, with_truth, truth_read, becomes_line, weighed}
use Rattle.session.specs.Running.{start_line}
use Rattle.session.specs.Replaying.{replayed, did_line}
use Rattle.session.specs.Replies.{Reply, has_objects, is_placed, allowed, words_of, reply}
use Rattle.session_laws.specs.Inner.{moves_state}
use Rattle.session_laws.specs.TextRuns.{is_refused}
use Rattle.session_laws.proofs.PlaceLaws.{in-run, did-placed}
use Rattle.session_laws.proofs.RunLaws.{made_by}
use Rattle.session_laws.proofs.ReplayLaws.{did_read}
use Rattle.session_laws.proofs.CaseLaws.{Cases, done-by, reply-by}
use Rattle.text_replays.specs.Claims.{Stands}

-- the reply y to a line of the kind k: an accepted (objects n) or (true p o ..) begins again with count and total 0; an accepted (is c o) leaves both, and a constant was not placed;
-- an accepted (did ..) stands where (value) may; any other line leaves the state, count and total
pub data StateEffect (σ : Session) (k : Kind) (y : Reply) : Type 0 where
  stays : (moves_state k ≡ true → is_refused y.answer ≡ true) → y.session.live ≡ σ.live → StateEffect σ k y
  clears : k ≡ K.Objects → is_refused y.answer ≡ false → σ.part ≡ Run → y.session.live.count ≡ 0 → y.session.live.total ≡ 0 → StateEffect σ k y
  places : k ≡ K.Is → is_refused y.answer ≡ false → σ.part ≡ Run → (is_placed σ ≡ true → ⊥) → y.session.live.count ≡ σ.live.count
      → y.session.live.total ≡ σ.live.total → StateEffect σ k y
  tells : k ≡ K.True → is_refused y.answer ≡ false → σ.part ≡ Run → y.session.live.count ≡ 0 → y.session.live.total ≡ 0
      → y.session.live.objects ≡ σ.live.objects → y.session.live.placed ≡ σ.live.placed → StateEffect σ k y
  does : k ≡ K.Did → is_refused y.answer ≡ false → Stands σ → y.session.live.objects ≡ σ.live.objects → y.session.live.placed ≡ σ.live.placed → StateEffect σ k y

never : {A : Type 0} → false ≡ true → A
never e = clash e refl

-- (objects n)
objects-effect : (n : ℕ) (l : Live) → objects_line n ≡ ok l → (l.count ≡ 0) × (l.total ≡ 0)
unfolding objects_line cleared
objects-effect n l e =
    (accepted-cond {P = λ (z : Live). (z.count ≡ 0) × (z.total ≡ 0)} (not (leb 1 n && leb n _)) Range _ (λ d. accepted-ok (refl, refl))).given l e

-- (is c o): the constant is declared, and was not placed
is-effect : (σ : Session) (k : Key) (o : ℕ) (l : Live) → is_line σ.names σ.live k o ≡ ok l
    → (is_placed σ ≡ true → ⊥) × (l.count ≡ σ.live.count) × (l.total ≡ σ.live.total)
unfolding is_line placed is_among
is-effect σ k o l e =
    let n = σ.names.constants in
    let i = place_of k n in
    (accepted-cond {P = λ (z : Live). (is_placed σ ≡ true → ⊥) × (z.count ≡ σ.live.count) × (z.total ≡ σ.live.total)}
    (not (is_among k n) || eqb (get_or σ.live.placed i 0) 1) Name _ (λ d.
    accepted-cond (leb σ.live.objects o) Range _ (λ b.
    accepted-ok (
      (λ h.
          let all = and_right (has_objects σ) _ h in
          clash (below-every (length n) (λ c. eqb (get_or σ.live.placed c 0) 1) i all (ltb-true i (length n) (only-first (is_among k n) _ d).0)) (only-first (is_among k n) _ d).1),
      refl,
      refl,
    )))).given l e

-- (true p o ..), a repeated one too
abbrev Told : Live → Live → Type 0
Told l z = (z.count ≡ 0) × (z.total ≡ 0) × (z.objects ≡ l.objects) × (z.placed ≡ l.placed)

fact-effect : (l : Live) (row : List ℕ) → Accepted (Told l) (fact_line l row)
unfolding fact_line with_fact begun_again
fact-effect l row = go (is_fact l.facts row)
  where
    go : (b : Bool) → Accepted (Told l) (cond b (ok (begun_again l)) (refuse_if (leb most_facts (fact_count l.facts)) Space (ok (with_fact l row))))
    go true = accepted-ok (refl, refl, refl, refl)
    go false = accepted-cond (leb most_facts (fact_count l.facts)) Space (ok (with_fact l row)) (λ a. accepted-ok (refl, refl, refl, refl))

true-effect : (ar : List ℕ) (n : Names) (l : Live) (k : Key) (os : List ℕ) (z : Live) → true_line ar n l k os ≡ ok z → Told l z
unfolding true_line
true-effect ar n l k os z e =
    (accepted-cond {P = Told l} (not (is_among k n.predicates)) Name _ (λ a.
    accepted-cond (not (eqb (length os) (get_or ar (predicate_of n k) 0))) Arity _ (λ b.
    accepted-cond (not (all_below l.objects os)) Range _ (λ c.
    fact-effect l (fact_row (predicate_of n k) os))))).given z e

-- (did action variant object ..)
did-effect : (m : Model) (n : Names) (l : Live) (a v : Key) (os : List ℕ) (z : Live) → did_line m n l a v os ≡ ok z → (z.objects ≡ l.objects) × (z.placed ≡ l.placed)
unfolding replayed
did-effect m n l a v os z e =
    let r = ((did_read m n l a v os).given z e).is in
    (ap (λ (x : Live). x.objects) r, ap (λ (x : Live). x.placed) r)

-- ===== Every line =====

module _ (σ : Session) (number : ℕ) (es : List Event) where
  abbrev StateEffectIn : Kind → Reply → Type 0
  StateEffectIn k y = allowed σ (rule_of k σ.part) ≡ ok tt → StateEffect σ k y

  abbrev SameLive : Session → Type 0
  SameLive τ = τ.live ≡ σ.live

  reward-live : (τ : Session) → reward_line σ es ≡ ok τ → SameLive τ
  unfolding reward_line with_reward
  reward-live τ e = made_by SameLive (reward_read σ.names σ.model.arities σ.rows es) (with_reward σ) (λ d. refl) τ e

  variant_live : (k : Key) (fs : List Event) (τ : Session) → variant_line σ k fs ≡ ok τ → SameLive τ
  unfolding variant_line with_variant
  variant_live k fs τ e = made_by SameLive (weight_read σ.names σ.model.arities σ.rows k fs) (with_variant σ k) (λ d. refl) τ e

  becomes-live : (τ : Session) → becomes_line σ es ≡ ok τ → SameLive τ
  unfolding becomes_line with_truth
  becomes-live τ e =
      made_by SameLive (truth_read σ.names σ.model.arities (truths_now σ.model.actions) σ.rows es) (λ t. with_truth σ t.0 t.1) (λ t. refl) τ e

  start-live : (τ : Session) → start_line σ ≡ ok τ → SameLive τ
  unfolding start_line
  start-live τ e = made_by SameLive (weighed σ.model.arities σ.model.total σ.model.actions) (λ u. with_held σ Run (begin σ.model)) (λ u. refl) τ e

  run : (k : Kind) → rule_of k ModelPart ≡ R.Misplaced → allowed σ (rule_of k σ.part) ≡ ok tt → σ.part ≡ Run
  run k q a = in-run σ (rule_of k) q σ.part a

  stands : allowed σ (rule_of K.Did σ.part) ≡ ok tt → Stands σ
  stands a = let p = run K.Did refl a in record { run = p; placed = did-placed σ p a }

  live-cases : Cases σ number es StateEffectIn
  unfolding with_vocabulary with_total with_discount with_action
  live-cases = record {
    refusing = λ k r a. stays (λ q. refl) refl;
    for_constant = λ n e a. stays never refl;
    for_predicate = λ v e a. stays never refl;
    for_total = λ x e a. stays never refl;
    for_discount = λ q e a. stays never refl;
    for_reward = λ τ e a. stays never (reward-live τ e);
    for_action = λ n e a. stays never refl;
    for_variant = λ τ e a. stays never (variant_live _ _ τ e);
    for_becomes = λ τ e a. stays never (becomes-live τ e);
    for_start = λ τ e a. stays never (start-live τ e);
    for_objects = λ l e a. let h = objects-effect _ l e in clears refl refl (run K.Objects refl a) h.0 h.1;
    for_is = λ l e a. let h = is-effect σ _ _ l e in places refl refl (run K.Is refl a) h.0 h.1 h.2;
    for_true = λ l e a. let h = true-effect _ _ _ _ _ l e in tells refl refl (run K.True refl a) h.0 h.1 h.2 h.3;
    for_value = λ v e a. stays never refl;
    for_backup = λ h e a. stays never refl;
    for_cut = λ h row edge left e d a. stays never refl;
    for_reduce = λ h e a. stays never refl;
    for_show = λ a. stays never refl;
    for_text = λ n e a. stays never refl;
    for_best = λ x e a. stays never refl;
    for_count = λ l e a. stays never refl;
    for_did = λ l e a. let h = did-effect _ _ _ _ _ _ l e in does refl refl (stands a) h.0 h.1;
  }

pub effect : (σ : Session) (number : ℕ) (s : List ℕ) → StateEffect σ (line_kind s) (reply σ number s)
unfolding line_kind
effect σ number s =
    let es = words_of (line_kind s) s in
    reply-by σ number s (StateEffect σ) (λ e. stays (λ q. blank e q) refl) (λ r. stays (λ q. refl) refl) (done-by σ number es (StateEffectIn σ number es) (live-cases σ number es) (line_kind s))
  where
    blank : {A : Type 0} → s ≡ [] → moves_state (line_kind s) ≡ true → A
    blank e q = never (sym (ap (λ (t : List ℕ). moves_state (line_kind t)) e) ∙ q)
