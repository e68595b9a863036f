-- Demand 3 for texts, whole: behind whatever lines, the value diagram and k are those of a run of the model accepted at (start), of the very backups,
-- cuts and reductions that the lines behind it ask for (document 01, section 'Backup'; document 02, L13).
use Rattle.std.proofs.Math.Path.{◌≡◌, refl, ap}
use Rattle.std.proofs.Common.{sym, ap₂, ◌∙◌, subst, zero-add}
use Rattle.std.specs.Prelude.{cond, ℕ, suc, ◌+◌, length}
use mathlib.Core.List.{List, [], ◌∷◌, ◌++◌}
use Rattle.std.proofs.Math.Option.{Option, some, none}
use native.Mathlib.Omega.{arith}
use Rattle.basics.specs.Tests.{cond-const}
use Rattle.diagram.specs.Diagram.{Diagram}
use Rattle.refusal.specs.Outcome.{Outcome, ok, refused}
use Rattle.refusal.specs.OutcomeLaws.{accepted-ok, accepted-next}
use Rattle.cutting.specs.Cut.{diagram_answer}
use Rattle.reduction.specs.Reduction.{reduce_answer}
use Rattle.state.specs.State.{meaning}
use Rattle.minimum.specs.Number.{number}
use Rattle.mdp.specs.Model.{Model, GoodModel}
use Rattle.mdp.specs.Bellman.{bellman}
use Rattle.mdp.specs.Backup.{backup}
use Rattle.mdp.specs.Runs.{Call, Held, cut_outcome, held_with, call, taken, run_from, begin, run}
use Rattle.mdp.proofs.RunLaws.{demand-3}
use Rattle.words.specs.declared.Key.{Key}
use Rattle.text.specs.declared.Kind.{Kind}
use Rattle.text.specs.declared.Kind.TheVariants as K
use Rattle.text.specs.LineForm.{line_kind}
use Rattle.events.specs.declared.Event.{Event}
use Rattle.answers.specs.declared.Answer.{Answer}
use Rattle.answers.specs.declared.Answer.TheVariants as A
use Rattle.session.specs.declared.Part.TheVariants.{Model as ModelPart, Run}
use Rattle.session.specs.declared.Rule.TheVariants as R
use Rattle.session.specs.Place.{rule_of}
use Rattle.session.specs.Session.{Session, opening, with_held}
use Rattle.session.specs.Declaring.{with_vocabulary, with_total, with_discount, with_action}
use Rattle.session.specs.ModelLines.{with_reward, reward_read, reward_line, with_variant, weight_read, variant_line, truths_now, with_truth, truth_read, becomes_line, weighed}
use Rattle.session.specs.Running.{start_line, backup_is, cut_is, reduce_is}
use Rattle.session.specs.Replies.{Reply, silent, allowed, call_says, done, at_place, reply_to, words_of, reply}
use Rattle.session.specs.Texts.{has_bytes, Progress, replied, after_line, after_lines, beginning}
use Rattle.session_laws.specs.TextReplies.{replies}
use Rattle.session_laws.specs.TextRuns.{call_of, call_then, calls_of, is_refused, one_if_backup, accepted_backup, accepted_backups, RunOf, HoldsValues}
use Rattle.session_laws.proofs.PlaceLaws.{model-run, in-run}
use Rattle.session_laws.proofs.RunLaws.{made_by}
use Rattle.session_laws.proofs.CaseLaws.{Cases, done-by, reply-by}
use Rattle.session_laws.proofs.KeepLaws.{line-keeps}
use Rattle.session_laws.specs.FoldLaws.{lines-count}

-- ===== A line of the run =====

-- the session τ behind lines of the run: the same run but for the value diagram and k, which are those of h, and n accepted backups
record Went (σ : Session) (h : Held) (n : ℕ) (τ : Session) : Type 0 where
  part : τ.part ≡ Run
  model : τ.model ≡ σ.model
  held : τ.held ≡ h
  steps : τ.held.steps ≡ σ.held.steps + n

-- a line of the kind k is replied y: one call more, if the line asks for one
abbrev OneCall : Session → Kind → Reply → Type 0
OneCall σ k y = Went σ (run_from σ.model (call_then (call_of k) []) σ.held) (accepted_backup k y.answer) y.session

uncounted : (k : Kind) (a : Answer) → one_if_backup (call_of k) ≡ 0 → accepted_backup k a ≡ 0
unfolding accepted_backup
uncounted k a c = ap (cond (is_refused a) 0) c ∙ cond-const (is_refused a) 0

-- a kind of line that asks for a backup, a cut, a reduction, or nothing
data Asks (k : Kind) : Type 0 where
  backs : k ≡ K.Backup → Asks k
  cuts : k ≡ K.Cut → Asks k
  reduces : k ≡ K.Reduce → Asks k
  nothing : call_of k ≡ none → Asks k

asks : (k : Kind) → Asks k
asks K.Constant = nothing refl
asks K.Predicate = nothing refl
asks K.Total = nothing refl
asks K.Discount = nothing refl
asks K.Reward = nothing refl
asks K.Action = nothing refl
asks K.Variant = nothing refl
asks K.Becomes = nothing refl
asks K.Start = nothing refl
asks K.Objects = nothing refl
asks K.Is = nothing refl
asks K.True = nothing refl
asks K.Value = nothing refl
asks K.Backup = backs refl
asks K.Cut = cuts refl
asks K.Show = nothing refl
asks K.Reduce = reduces refl
asks K.Text = nothing refl
asks K.Best = nothing refl
asks K.Count = nothing refl
asks K.Did = nothing refl
asks K.Bad = nothing refl

module _ (σ : Session) (p : σ.part ≡ Run) (number : ℕ) where
  -- no call asked for, and the same run
  no_call : (k : Kind) (y : Reply) → call_of k ≡ none → y.session.part ≡ σ.part → y.session.model ≡ σ.model → y.session.held ≡ σ.held → OneCall σ k y
  unfolding run_from
  no_call k y c e f h = record {
    part = e ∙ p;
    model = f;
    held = h ∙ ap (λ (o : Option Call). run_from σ.model (call_then o []) σ.held) (sym c);
    steps = let z = uncounted k y.answer (ap one_if_backup c) in let q = ap (λ (x : Held). x.steps) h in omega arith;
  }

  uncalled : (s : List ℕ) → call_of (line_kind s) ≡ none → OneCall σ (line_kind s) (reply σ number s)
  uncalled s c = let x = line-keeps σ p number s in no_call (line_kind s) (reply σ number s) c (x.part ∙ sym p) x.model (x.held c)

  -- a line that stands anywhere in the run is done
  anywhere : (k : Kind) → rule_of k Run ≡ R.Anywhere → (s : List ℕ) → line_kind s ≡ k → reply σ number s ≡ done σ number k (words_of k s)
  unfolding reply reply_to allowed line_kind
  anywhere k q [] i = let e = ap (λ (j : Kind). rule_of j Run) i ∙ q in let z : ◌≡◌ {A = ℕ} 0 1 = cc in absurd (omega arith)
  anywhere k q (b ∷ t) i =
      ap (λ (j : Kind). reply_to σ number j (words_of j (b ∷ t))) i
      ∙ ap (λ (o : Outcome (Unit {0})). at_place σ number o (done σ number k (words_of k (b ∷ t)))) (ap (allowed σ) (ap (rule_of k) p ∙ q))

  -- a line that is a call of the run: o is what it gives of the value diagram, j the steps behind it
  called : (k : Kind) (says : Held → Answer) (j : ℕ) (o : Outcome Diagram) → ((h : Held) → j ≡ σ.held.steps + accepted_backup k (says h))
      → Went σ (taken σ.held (held_with j o)) (accepted_backup k (call_says σ number says (held_with j o)).answer) (call_says σ number says (held_with j o)).session
  unfolding accepted_backup
  called k says j (ok d) e = record { part = p; model = refl; held = refl; steps = e _ }
  called k says j (refused r) e = record { part = p; model = refl; held = refl; steps = omega arith }

  backup-done : (es : List Event) → OneCall σ K.Backup (done σ number K.Backup es)
  unfolding done call run_from accepted_backup
  backup-done es = called K.Backup backup_is (suc σ.held.steps) (backup σ.model σ.held.steps σ.held.diagram) (λ h. omega arith)

  cut-done : (es : List Event) → OneCall σ K.Cut (done σ number K.Cut es)
  unfolding done call run_from accepted_backup
  cut-done es =
      let told = cut_is (diagram_answer σ.model.arities σ.held.diagram) in
      called K.Cut (λ h. told) σ.held.steps (cut_outcome σ.model.arities σ.held.diagram) (λ h. omega (arith, uncounted K.Cut told refl))

  reduce-done : (es : List Event) → OneCall σ K.Reduce (done σ number K.Reduce es)
  unfolding done call run_from accepted_backup
  reduce-done es = called K.Reduce reduce_is σ.held.steps (reduce_answer σ.model.arities σ.held.diagram) (λ h. omega arith)

  line-run : (s : List ℕ) → OneCall σ (line_kind s) (reply σ number s)
  line-run s = go (asks (line_kind s))
    where
      by-done : (k : Kind) → line_kind s ≡ k → rule_of k Run ≡ R.Anywhere → OneCall σ k (done σ number k (words_of k s)) → OneCall σ (line_kind s) (reply σ number s)
      by-done k i q h = subst (λ (j : Kind). OneCall σ j (reply σ number s)) (sym i) (subst (OneCall σ k) (sym (anywhere k q s i)) h)

      go : Asks (line_kind s) → OneCall σ (line_kind s) (reply σ number s)
      go (backs i) = by-done K.Backup i refl (backup-done (words_of K.Backup s))
      go (cuts i) = by-done K.Cut i refl (cut-done (words_of K.Cut s))
      go (reduces i) = by-done K.Reduce i refl (reduce-done (words_of K.Reduce s))
      go (nothing c) = uncalled s c

-- ===== Lines of the run =====

call-then : (m : Model) (o : Option Call) (l : List Call) (h : Held) → run_from m l (run_from m (call_then o []) h) ≡ run_from m (call_then o l) h
unfolding run_from
call-then m none l h = refl
call-then m (some c) l h = refl

lines-run : (q : Progress) → q.session.part ≡ Run → (ls : List (List ℕ))
    → Went q.session (run_from q.session.model (calls_of ls) q.session.held) (accepted_backups ls (replies q.session q.lines ls)) (after_lines q ls).session
unfolding after_lines after_line calls_of accepted_backups replies run_from
lines-run q e [] = record { part = e; model = refl; held = refl; steps = omega arith }
lines-run q e (s ∷ ls) =
    let σ = q.session in
    let y = reply σ (suc q.lines) s in
    let a = line-run σ e (suc q.lines) s in
    let b = lines-run (replied q (has_bytes s) y) a.part ls in
    record {
      part = b.part;
      model = b.model ∙ a.model;
      held = b.held ∙ ap₂ (λ (m : Model) (h : Held). run_from m (calls_of ls) h) a.model a.held ∙ call-then σ.model (call_of (line_kind s)) (calls_of ls) σ.held;
      steps = omega (arith, b.steps, a.steps);
    }

-- ===== A line of the model =====

-- the model goes on, and no backup is accepted; or it is the accepted (start), whose sums of weights passed
data Modelled (σ : Session) (k : Kind) (y : Reply) : Type 0 where
  stays : y.session.part ≡ ModelPart → y.session.held ≡ σ.held → accepted_backup k y.answer ≡ 0 → Modelled σ k y
  starts : k ≡ K.Start → y ≡ silent (with_held σ Run (begin σ.model)) → weighed σ.model.arities σ.model.total σ.model.actions ≡ ok tt
      → Modelled σ k y

module _ (σ : Session) (p : σ.part ≡ ModelPart) (number : ℕ) where
  abbrev InModel : Kind → Reply → Type 0
  InModel k y = allowed σ (rule_of k σ.part) ≡ ok tt → Modelled σ k y

  later : {A : Type 0} (k : Kind) → rule_of k ModelPart ≡ R.Misplaced → allowed σ (rule_of k σ.part) ≡ ok tt → A
  later k q a = model-run (sym p ∙ in-run σ (rule_of k) q σ.part a)

  reward-stays : (es : List Event) (τ : Session) → reward_line σ es ≡ ok τ → Modelled σ K.Reward (silent τ)
  unfolding reward_line with_reward accepted_backup
  reward-stays es τ e =
      made_by (λ ρ. Modelled σ K.Reward (silent ρ)) (reward_read σ.names σ.model.arities σ.rows es) (with_reward σ) (λ d. stays p refl refl) τ e

  variant-stays : (k : Key) (es : List Event) (τ : Session) → variant_line σ k es ≡ ok τ → Modelled σ K.Variant (silent τ)
  unfolding variant_line with_variant accepted_backup
  variant-stays k es τ e =
      made_by (λ ρ. Modelled σ K.Variant (silent ρ)) (weight_read σ.names σ.model.arities σ.rows k es) (with_variant σ k) (λ d. stays p refl refl) τ e

  becomes-stays : (es : List Event) (τ : Session) → becomes_line σ es ≡ ok τ → Modelled σ K.Becomes (silent τ)
  unfolding becomes_line with_truth accepted_backup
  becomes-stays es τ e =
      made_by (λ ρ. Modelled σ K.Becomes (silent ρ)) (truth_read σ.names σ.model.arities (truths_now σ.model.actions) σ.rows es)
      (λ t. with_truth σ t.0 t.1) (λ t. stays p refl refl) τ e

  start-starts : (τ : Session) → start_line σ ≡ ok τ → Modelled σ K.Start (silent τ)
  unfolding start_line
  start-starts τ e =
      (accepted-next {P = λ ρ. Modelled σ K.Start (silent ρ)} (weighed σ.model.arities σ.model.total σ.model.actions)
      (λ u. ok (with_held σ Run (begin σ.model))) (λ u q. accepted-ok (starts refl refl q))).given τ e

  model-cases : (es : List Event) → Cases σ number es InModel
  unfolding with_vocabulary with_total with_discount with_action accepted_backup
  model-cases es = record {
    refusing = λ k r a. stays p refl refl;
    for_constant = λ n e a. stays p refl refl;
    for_predicate = λ v e a. stays p refl refl;
    for_total = λ x e a. stays p refl refl;
    for_discount = λ q e a. stays p refl refl;
    for_reward = λ τ e a. reward-stays es τ e;
    for_action = λ n e a. stays p refl refl;
    for_variant = λ τ e a. variant-stays _ _ τ e;
    for_becomes = λ τ e a. becomes-stays es τ e;
    for_start = λ τ e a. start-starts τ e;
    for_objects = λ l e a. later K.Objects refl a;
    for_is = λ l e a. later K.Is refl a;
    for_true = λ l e a. later K.True refl a;
    for_value = λ v e a. later K.Value refl a;
    for_backup = λ h e a. later K.Backup refl a;
    for_cut = λ h row edge left e d a. later K.Cut refl a;
    for_reduce = λ h e a. later K.Reduce refl a;
    for_show = λ a. later K.Show refl a;
    for_text = λ n e a. later K.Text refl a;
    for_best = λ x e a. later K.Best refl a;
    for_count = λ l e a. later K.Count refl a;
    for_did = λ l e a. later K.Did refl a;
  }

  line-model : (s : List ℕ) → Modelled σ (line_kind s) (reply σ number s)
  unfolding line_kind accepted_backup
  line-model s =
      let es = words_of (line_kind s) s in
      reply-by σ number s (Modelled σ) (λ e. stays p refl (ap (λ (t : List ℕ). accepted_backup (line_kind t) A.Nothing) e)) (λ r. stays p refl refl)
      (done-by σ number es InModel (model-cases es) (line_kind s))

-- ===== Lines of the model, and those behind them =====

-- the reply to the accepted (start): the run behind it is that of lines-run
module _ (q : Progress) (s : List ℕ) (e : reply q.session (suc q.lines) s ≡ silent (with_held q.session Run (begin q.session.model))) where
  abbrev after-start : Progress
  after-start = replied q (has_bytes s) (reply q.session (suc q.lines) s)

  start-run : (ls : List (List ℕ)) → Went (with_held q.session Run (begin q.session.model)) (run q.session.model (calls_of ls))
      (accepted_backups ls (replies after-start.session (suc q.lines) ls)) (after_lines after-start ls).session
  unfolding run
  start-run ls =
      let f = ap (λ (y : Reply). y.session) e in
      let w = lines-run after-start (ap (λ (τ : Session). τ.part) f) ls in
      record {
        part = w.part;
        model = w.model ∙ ap (λ (τ : Session). τ.model) f;
        held = w.held ∙ ap (λ (τ : Session). run_from τ.model (calls_of ls) τ.held) f;
        steps = let g = ap (λ (τ : Session). τ.held.steps) f in omega (arith, w.steps);
      }

-- k counts the accepted backups
steps-behind : (q : Progress) → q.session.part ≡ ModelPart → q.session.held.steps ≡ 0 → (ls : List (List ℕ))
    → (after_lines q ls).session.held.steps ≡ accepted_backups ls (replies q.session q.lines ls)
unfolding after_lines after_line accepted_backups accepted_backup replies begin
steps-behind q p z [] = z
steps-behind q p z (s ∷ ls) =
    go (line-model q.session p (suc q.lines) s) (λ a b. steps-behind (replied q (has_bytes s) (reply q.session (suc q.lines) s)) a b ls)
  where
    y : Reply
    y = reply q.session (suc q.lines) s

    go : Modelled q.session (line_kind s) y
        → (y.session.part ≡ ModelPart → y.session.held.steps ≡ 0
        → (after_lines (replied q (has_bytes s) y) ls).session.held.steps ≡ accepted_backups ls (replies y.session (suc q.lines) ls))
        → (after_lines (replied q (has_bytes s) y) ls).session.held.steps ≡ accepted_backup (line_kind s) y.answer + accepted_backups ls (replies y.session (suc q.lines) ls)
    go (stays a b c) ih = omega (arith, ih a (ap (λ (h : Held). h.steps) b ∙ z))
    go (starts k e passed) ih =
        let n : accepted_backup (line_kind s) y.answer ≡ 0 = ap₂ accepted_backup k (ap (λ (x : Reply). x.answer) e) in
        omega (arith, (start-run q s e ls).steps)

-- RunOf, of lines behind others
record RunBehind (q : Progress) (ls : List (List ℕ)) (σ : Session) : Type 0 where
  before : List (List ℕ)
  start : List ℕ
  behind : List (List ℕ)
  lines : ls ≡ before ++ (start ∷ behind)
  is-start : line_kind start ≡ K.Start
  accepted : reply (after_lines q before).session (suc (after_lines q before).lines) start
      ≡ silent (with_held (after_lines q before).session Run (begin (after_lines q before).session.model))
  model : σ.model ≡ (after_lines q before).session.model
  weights : weighed σ.model.arities σ.model.total σ.model.actions ≡ ok tt
  held : σ.held ≡ run σ.model (calls_of behind)

run-behind : (q : Progress) → q.session.part ≡ ModelPart → (ls : List (List ℕ)) → (after_lines q ls).session.part ≡ Run → RunBehind q ls (after_lines q ls).session
unfolding after_lines after_line
run-behind q p [] r = model-run (sym p ∙ r)
run-behind q p (s ∷ ls) r =
    go (line-model q.session p (suc q.lines) s) (λ a. run-behind (replied q (has_bytes s) (reply q.session (suc q.lines) s)) a ls r)
  where
    y : Reply
    y = reply q.session (suc q.lines) s

    end : Session
    end = (after_lines (replied q (has_bytes s) y) ls).session

    go : Modelled q.session (line_kind s) y → (y.session.part ≡ ModelPart → RunBehind (replied q (has_bytes s) y) ls end) → RunBehind q (s ∷ ls) end
    go (stays a b c) ih =
        let w = ih a in
        record {
          before = s ∷ w.before;
          start = w.start;
          behind = w.behind;
          lines = ap (λ (ms : List (List ℕ)). s ∷ ms) w.lines;
          is-start = w.is-start;
          accepted = w.accepted;
          model = w.model;
          weights = w.weights;
          held = w.held;
        }
    go (starts k e passed) ih =
        let w = start-run q s e ls in
        record {
          before = [];
          start = s;
          behind = ls;
          lines = refl;
          is-start = k;
          accepted = e;
          model = w.model;
          weights = ap (λ (m : Model). weighed m.arities m.total m.actions) w.model ∙ passed;
          held = w.held ∙ ap (λ (m : Model). run m (calls_of ls)) (sym w.model);
        }

-- ===== Texts =====

-- demand 3, for a session that a run of a good model leads to
run-values : (σ : Session) → GoodModel σ.model → (l : List Call) → σ.held ≡ run σ.model l → HoldsValues σ
run-values σ g l e = record {
  each = λ s h.
      subst (λ (x : Held). number s [] (meaning σ.model.arities x.diagram) ≡ bellman σ.model x.steps s) (sym e) (demand-3 σ.model g l s h);
}

pub run_of : (ls : List (List ℕ)) → (after_lines beginning ls).session.part ≡ Run → GoodModel (after_lines beginning ls).session.model
    → RunOf ls (after_lines beginning ls).session
unfolding beginning opening
run_of ls r g =
    let w = run-behind beginning refl ls r in
    let n : (after_lines beginning w.before).lines ≡ length w.before = lines-count beginning w.before ∙ zero-add (length w.before) in
    record {
      before = w.before;
      start = w.start;
      behind = w.behind;
      lines = w.lines;
      is-start = w.is-start;
      accepted = subst (λ (i : ℕ). reply (after_lines beginning w.before).session (suc i) w.start
          ≡ silent (with_held (after_lines beginning w.before).session Run (begin (after_lines beginning w.before).session.model))) n w.accepted;
      model = w.model;
      weights = w.weights;
      held = w.held;
      steps = steps-behind beginning refl refl ls;
      values = run-values (after_lines beginning ls).session g (calls_of w.behind) w.held;
    }
