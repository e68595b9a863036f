-- From line to line: a constant that is not declared has object 0. (is c o) places declared ones alone, (objects n) places none, (true p o ..) and (did action variant o ..)
-- change facts alone.
use Rattle.std.specs.Prelude.{◌≡◌, refl, Bool, true, false, not, ◌||◌, cond, List, [], ◌∷◌, ◌++◌, ℕ, zero, suc, ◌≤◌, length, get_or, replicate, leb, eqb}
use Rattle.std.proofs.Common.{◌∙◌, arith, length-append, get_or-set_other, ltb-true}
use Rattle.basics.specs.Tests.{only-first}
use Rattle.refusal.specs.declared.Refusal.TheVariants.{Name, Arity, Range, Space}
use Rattle.refusal.specs.Outcome.{ok, Accepted}
use Rattle.refusal.specs.OutcomeLaws.{accepted-ok, accepted-next, accepted-cond}
use Rattle.label.specs.Limits.{constant_count}
use Rattle.state.specs.Lent.{fact_count, all_below, most_facts, fact_row}
use Rattle.mdp.specs.Model.{Model}
use Rattle.words.specs.declared.Key.{Key}
use Rattle.names.specs.Keys.{place_of, is_among}
use Rattle.mdp.specs.Runs.{begin}
use Rattle.text.specs.declared.Kind.{Kind}
use Rattle.text.specs.LineForm.{line_kind}
use Rattle.events.specs.declared.Event.{Event}
use Rattle.session.specs.declared.Part.TheVariants.{Run}
use Rattle.session.specs.Session.{Names, Live, Session, opening, with_held, refuse_if}
use Rattle.replay.specs.Replay.{action_of, did}
use Rattle.session.specs.Declaring.{with_vocabulary, with_total, with_discount, with_action}
use Rattle.session.specs.Facts.{cleared, objects_line, placed, is_line, is_fact, begun_again, fact_line, with_fact, predicate_of, true_line}
use Rattle.session.specs.Replaying.{variant_names, did_of, replay_in, did_to, did_line}
use Rattle.session.specs.ModelLines.{with_reward, reward_read, reward_line, with_variant, weight_read, variant_line, truths_now, with_truth, truth_read, becomes_line, weighed}
use Rattle.session.specs.Running.{start_line}
use Rattle.session.specs.Replies.{Reply, words_of, reply}
use Rattle.session.specs.Texts.{has_bytes, Progress, replied, after_line, after_lines, beginning}
use Rattle.session_laws.proofs.StateLaws.{objects-kept}
use Rattle.session_laws.proofs.RunLaws.{made_by}
use Rattle.session_laws.proofs.CaseLaws.{Cases, vocabulary_of, done-by, reply-by}
use Rattle.session_laws.proofs.MadeLaws.{constant_by, predicate-by, action-by}
use Rattle.text_spreads.proofs.LineLaws.{Settled}

abbrev Rest : Names → Live → Type 0
Rest n l = (c : ℕ) → length n.constants ≤ c → get_or l.constants c 0 ≡ 0

abbrev KeepsRest : Kind → Reply → Type 0
KeepsRest k y = Rest y.session.names y.session.live

-- ===== Lines that declare =====

-- one constant more
more-rest : (n : Names) (l : Live) → Rest n l → (k : Key) (c : ℕ) → length (n.constants ++ (k ∷ [])) ≤ c → get_or l.constants c 0 ≡ 0
more-rest n l h k c i = h c (omega (arith, length-append n.constants (k ∷ [])))

-- ===== Lines of the state =====

zeros : (n c : ℕ) → ◌≡◌ {A = ℕ} (get_or (replicate n 0) c 0) 0
zeros zero c = refl
zeros (suc n) zero = refl
zeros (suc n) (suc c) = zeros n c

is-rest : (n : Names) (l : Live) → Rest n l → (k : Key) (o : ℕ) (m : Live) → is_line n l k o ≡ ok m → Rest n m
unfolding is_line placed is_among
is-rest n l h k o m e =
    (accepted-cond {P = λ (z : Live). Rest n z} (not (is_among k n.constants) || eqb (get_or l.placed (place_of k n.constants) 0) 1) Name _ (λ a.
    accepted-cond (leb l.objects o) Range _ (λ b.
    accepted-ok (λ c i.
    let there = ltb-true (place_of k n.constants) (length n.constants) (only-first (is_among k n.constants) _ a).0 in
    get_or-set_other l.constants (place_of k n.constants) c o 0 (omega arith) ∙ h c i)))).given m e

fact-rest : (n : Names) (l : Live) → Rest n l → (row : List ℕ) → Accepted (λ (z : Live). Rest n z) (fact_line l row)
unfolding fact_line with_fact
fact-rest n l h row = go (is_fact l.facts row)
  where
    go : (b : Bool) → Accepted (λ (z : Live). Rest n z) (cond b (ok (begun_again l)) (refuse_if (leb most_facts (fact_count l.facts)) Space (ok (with_fact l row))))
    go true = accepted-ok h
    go false = accepted-cond (leb most_facts (fact_count l.facts)) Space (ok (with_fact l row)) (λ a. accepted-ok h)

true-rest : (ar : List ℕ) (n : Names) (l : Live) → Rest n l → (k : Key) (os : List ℕ) (m : Live) → true_line ar n l k os ≡ ok m → Rest n m
unfolding true_line
true-rest ar n l h k os m e =
    (accepted-cond {P = λ (z : Live). Rest n z} (not (is_among k n.predicates)) Name _ (λ a.
    accepted-cond (not (eqb (length os) (get_or ar (predicate_of n k) 0))) Arity _ (λ b.
    accepted-cond (not (all_below l.objects os)) Range _ (λ c.
    fact-rest n l h (fact_row (predicate_of n k) os))))).given m e

did-rest : (m : Model) (n : Names) (l : Live) → Rest n l → (a v : Key) (os : List ℕ) (x : Live) → did_line m n l a v os ≡ ok x → Rest n x
unfolding did_line did_to
did-rest m n l h a v os x e =
    (accepted-cond {P = λ (z : Live). Rest n z} (not (is_among a n.actions)) Name _ (λ p.
    accepted-cond (not (eqb (length os) (action_of m (did_of m n a v os)).count)) Arity _ (λ q.
    accepted-cond (not (is_among v (variant_names n m.actions (place_of a n.actions)))) Name _ (λ r.
    accepted-cond (not (all_below l.objects os)) Range _ (λ s.
    accepted-next (did m (replay_in l) (did_of m n a v os)) _ (λ y t.
    accepted-ok h)))))).given x e

-- ===== Every line =====

module _ (σ : Session) (w : Rest σ.names σ.live) where
  abbrev RestOf : Names → Type 0
  RestOf n = Rest n σ.live

  reward-rest : (es : List Event) (τ : Session) → reward_line σ es ≡ ok τ → Rest τ.names τ.live
  unfolding reward_line with_reward
  reward-rest es τ e =
      made_by (λ ρ. Rest ρ.names ρ.live) (reward_read σ.names σ.model.arities σ.rows es) (with_reward σ) (λ d. w) τ e

  variant-rest : (k : Key) (es : List Event) (τ : Session) → variant_line σ k es ≡ ok τ → Rest τ.names τ.live
  unfolding variant_line with_variant
  variant-rest k es τ e =
      made_by (λ ρ. Rest ρ.names ρ.live) (weight_read σ.names σ.model.arities σ.rows k es) (with_variant σ k) (λ d. w) τ e

  becomes-rest : (es : List Event) (τ : Session) → becomes_line σ es ≡ ok τ → Rest τ.names τ.live
  unfolding becomes_line with_truth
  becomes-rest es τ e =
      made_by (λ ρ. Rest ρ.names ρ.live) (truth_read σ.names σ.model.arities (truths_now σ.model.actions) σ.rows es)
      (λ t. with_truth σ t.0 t.1) (λ t. w) τ e

  start-rest : (τ : Session) → start_line σ ≡ ok τ → Rest τ.names τ.live
  unfolding start_line
  start-rest τ e =
      made_by (λ ρ. Rest ρ.names ρ.live) (weighed σ.model.arities σ.model.total σ.model.actions) (λ u. with_held σ Run (begin σ.model)) (λ u. w) τ e

  objects-rest : (n : ℕ) (l : Live) → objects_line n ≡ ok l → Rest σ.names l
  unfolding cleared
  objects-rest n l e = (objects-kept (λ m. Rest σ.names m) n (λ h c i. zeros constant_count c)).given l e

  cases : (number : ℕ) (es : List Event) → Cases σ number es KeepsRest
  unfolding with_vocabulary with_total with_discount with_action
  cases number es = record {
    refusing = λ k r. w;
    for_constant = constant_by RestOf σ.names _ (more-rest σ.names σ.live w _);
    for_predicate = predicate-by RestOf (vocabulary_of σ) _ _ w;
    for_total = λ x e. w;
    for_discount = λ q e. w;
    for_reward = reward-rest es;
    for_action = action-by RestOf σ.names _ _ w;
    for_variant = variant-rest _ _;
    for_becomes = becomes-rest es;
    for_start = start-rest;
    for_objects = objects-rest _;
    for_is = is-rest σ.names σ.live w _ _;
    for_true = true-rest σ.model.arities σ.names σ.live w _ _;
    for_value = λ v e. w;
    for_backup = λ h e. w;
    for_cut = λ h row edge left e d. w;
    for_reduce = λ h e. w;
    for_show = w;
    for_text = λ n e. w;
    for_best = λ x e. w;
    for_count = λ l e. w;
    for_did = did-rest σ.model σ.names σ.live w _ _ _;
  }

  reply-rest : (number : ℕ) (s : List ℕ) → Rest (reply σ number s).session.names (reply σ number s).session.live
  reply-rest number s =
      let es = words_of (line_kind s) s in
      reply-by σ number s KeepsRest (λ e. w) (λ r. w) (λ a. done-by σ number es KeepsRest (cases number es) (line_kind s))

lines_rest : (p : Progress) → Rest p.session.names p.session.live → (ls : List (List ℕ)) → Rest (after_lines p ls).session.names (after_lines p ls).session.live
unfolding after_lines after_line
lines_rest p h [] = h
lines_rest p h (s ∷ ls) = lines_rest (replied p (has_bytes s) (reply p.session (suc p.lines) s)) (reply-rest p.session h (suc p.lines) s) ls

-- behind whatever lines
pub text-settled : (ls : List (List ℕ)) → Settled (after_lines beginning ls).session
unfolding beginning opening
text-settled ls = record { rest = lines_rest beginning (λ c i. zeros constant_count c) ls }
