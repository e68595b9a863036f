-- (best) in texts: after whatever lines, the move printed is the first whose sum is highest, and the next backup states its value (document 02, L9).
use Rattle.std.specs.Prelude.{◌≡◌, refl, ◌⊎◌, List, [], ◌∷◌, ◌++◌, ℕ, suc, ◌+◌, ◌*◌, ◌^◌, length}
use Rattle.std.proofs.Common.{sym, ap, ap₂, ◌∙◌, subst, inl, inr, arith, zero-add}
use Rattle.refusal.specs.declared.Refusal.{Refusal}
use Rattle.refusal.specs.declared.Refusal.TheVariants.{Missing, Valuations}
use Rattle.refusal.specs.Outcome.{ok}
use Rattle.mdp.specs.Model.{Model, scale}
use Rattle.mdp.specs.Bellman.{reward_in, bellman}
use Rattle.mdp.specs.Backup.{backup}
use Rattle.mdp.specs.Runs.{a_backup, Held, call}
use Rattle.mdp.proofs.StepLaws.{held_with_lem}
use Rattle.best.specs.Moves.{Move, move_sum}
use Rattle.best.proofs.RefusalLaws.{stopped-refused, backup-large}
use Rattle.words.specs.declared.Key.{Key}
use Rattle.text.specs.declared.Kind.{Kind}
use Rattle.text.specs.declared.Kind.TheVariants as K
use Rattle.text.specs.LineForm.{line_kind}
use Rattle.answers.specs.declared.Answer.TheVariants as A
use Rattle.session.specs.declared.Part.TheVariants.{Run}
use Rattle.session.specs.Place.{rule_of}
use Rattle.session.specs.Session.{Session, with_held}
use Rattle.session.specs.Replies.{Reply, allowed, words_of, reply}
use Rattle.session.specs.Texts.{Progress, after_line, after_lines, beginning}
use Rattle.session_laws.proofs.PlaceLaws.{model-run, in-run}
use Rattle.session_laws.specs.LineAnswers.{LineAnswered, quiet, valued, backed, cutting, reducing, showing, printing, moving, counting, replaying}
use Rattle.session_laws.specs.LineAnswers.{OneAnswer, blank, refusing, accepted, IsValue}
use Rattle.session_laws.proofs.AnswerLaws.{one_answer}
use Rattle.session_laws.specs.FoldLaws.{lines-count, after_then}
use Rattle.session_laws.proofs.KeepLaws.{lines_keep}
use Rattle.session_laws.specs.Inner.{NoStateLine}
use Rattle.session_laws.specs.TextRuns.{calls_of, RunOf}
use Rattle.session_laws.proofs.PrintLaws.{reply-moves}
use Rattle.session_laws.proofs.TextLaws.{Sound, text-sound, text-run, text-bellman}
use Rattle.text_moves.specs.Inner.{RefusesBest, in-model, missing, stopping}
use Rattle.text_moves.specs.Claims.{best_line, backup_line, in_hand, MovesBy}
use Rattle.text_moves.specs.LineLaws.{best-refuses}
use Rattle.text_moves.specs.MoveLaws.{answered-steps}

-- ===== Texts =====

module _ (ls : List (List ℕ)) (σ : Session) (q : σ ≡ (after_lines beginning ls).session) where
  sound : Sound σ
  sound = subst Sound (sym q) (text-sound ls)

  run_is : σ.part ≡ Run → RunOf ls σ
  run_is = subst (λ (τ : Session). τ.part ≡ Run → RunOf ls τ) (sym q) (text-run ls)

  -- "print (best action object ..) for the first action, then the lowest objects in order, whose weighted sum over variants is highest": after whatever lines, refused ones
  -- among them, and whatever line is answered by a move
  pub text-moves : (number : ℕ) (s : List ℕ) (k : Key) (n a b c d : ℕ) → (reply σ number s).answer ≡ A.Best k n a b c d → (x : Move) × MovesBy σ x (reply σ number s)
  text-moves number s k n a b c d e =
      let r = run_is (reply-moves σ sound.good number s k n a b c d e).1.run in
      answered-steps σ sound.good (calls_of r.behind) r.held number s k n a b c d e

-- lines behind (start) keep the model
pub model-stays : (ls : List (List ℕ)) (σ : Session) → σ ≡ (after_lines beginning ls).session → σ.part ≡ Run → (ms : List (List ℕ))
    → (τ : Session) → τ ≡ (after_lines beginning (ls ++ ms)).session → τ.model ≡ σ.model
model-stays ls σ q p ms τ u =
    ap (λ (ρ : Session). ρ.model) (u ∙ ap (λ (r : Progress). r.session) (after_then beginning ls ms))
    ∙ (lines_keep (after_lines beginning ls) (ap (λ (ρ : Session). ρ.part) (sym q) ∙ p) ms).model
    ∙ ap (λ (ρ : Session). ρ.model) (sym q)

-- "so a desk that follows it gets the value that the next backup, if accepted, states": behind the lines ls a move x is printed; lines ms later the state is the same, k is one
-- more, so that one backup was accepted, and a value v is printed
pub text-follows : (ls : List (List ℕ)) (σ : Session) → σ ≡ (after_lines beginning ls).session → (x : Move) (y : Reply) → MovesBy σ x y
    → (ms : List (List ℕ)) (τ : Session) → τ ≡ (after_lines beginning (ls ++ ms)).session → in_hand τ ≡ in_hand σ
    → (number : ℕ) (s : List ℕ) (v w : ℕ) → (reply τ number s).answer ≡ A.Value v (suc σ.held.steps) w
    → v ≡ scale σ.model ^ suc σ.held.steps * reward_in σ.model (in_hand σ) + move_sum σ.model σ.held.steps (in_hand σ) x
text-follows ls σ q x y h ms τ u same number s v w e =
    let k = suc σ.held.steps in
    let value = subst (λ (ρ : Session). (reply ρ number s).answer ≡ A.Value v k w → IsValue ρ v k w) (sym u) (text-bellman (ls ++ ms) number s v k w) e in
    value.value
    ∙ ap (λ (m : Model). bellman m k (in_hand τ)) (model-stays ls σ q h.run ms τ u)
    ∙ ap (bellman σ.model k) same
    ∙ h.steps.next

-- the state is the same where no line between is an (objects n), an (is c o), a (true p o ..) or a (did action variant o ..)
pub state-stays : (ls : List (List ℕ)) (σ : Session) → σ ≡ (after_lines beginning ls).session → σ.part ≡ Run → (ms : List (List ℕ)) → NoStateLine ms
    → (τ : Session) → τ ≡ (after_lines beginning (ls ++ ms)).session → τ.live ≡ σ.live
state-stays ls σ q p ms none τ u =
    ap (λ (ρ : Session). ρ.live) (u ∙ ap (λ (r : Progress). r.session) (after_then beginning ls ms))
    ∙ (lines_keep (after_lines beginning ls) (ap (λ (ρ : Session). ρ.part) (sym q) ∙ p) ms).live none
    ∙ ap (λ (ρ : Session). ρ.live) (sym q)

-- ===== (best), (backup), (value), one behind the other =====

-- an accepted backup gave the diagram held behind it, and adds 1 to k
backup-given : (m : Model) (h h' : Held) → call m a_backup h ≡ ok h' → (backup m h.steps h.diagram ≡ ok h'.diagram) × (h'.steps ≡ suc h.steps)
unfolding call
backup-given m h h' e = held_with_lem (suc h.steps) (backup m h.steps h.diagram) e

-- the reply y is that of an accepted backup
record Backed (σ : Session) (y : Reply) : Type 0 where
  run : σ.part ≡ Run
  held : Held
  read : call σ.model a_backup σ.held ≡ ok held
  session : y.session ≡ with_held σ σ.part held

backup-read : (σ : Session) (number : ℕ) (s : List ℕ) (k n : ℕ) → (reply σ number s).answer ≡ A.Backup k n → Backed σ (reply σ number s)
backup-read σ number s k n e = go (line_kind s) (reply σ number s) (one_answer σ number s) e
  where
    by_kind : (i : Kind) (y : Reply) → allowed σ (rule_of i σ.part) ≡ ok tt → LineAnswered σ (words_of i s) i y → y.answer ≡ A.Backup k n → Backed σ y
    by_kind i y a (quiet p q) e = let z : ◌≡◌ {A = ℕ} 0 1 = cc in absurd (omega arith)
    by_kind i y a (valued x p h t q) e = let z : ◌≡◌ {A = ℕ} 0 1 = cc in absurd (omega arith)
    by_kind i y a (backed h p r t q) e = record {
      run = in-run σ (rule_of K.Backup) refl σ.part (subst (λ (j : Kind). allowed σ (rule_of j σ.part) ≡ ok tt) p a);
      held = h;
      read = r;
      session = t;
    }
    by_kind i y a (cutting h row edge left p r d t q) e = let z : ◌≡◌ {A = ℕ} 0 1 = cc in absurd (omega arith)
    by_kind i y a (reducing h p r t q) e = let z : ◌≡◌ {A = ℕ} 0 1 = cc in absurd (omega arith)
    by_kind i y a (showing p t q) e = let z : ◌≡◌ {A = ℕ} 0 1 = cc in absurd (omega arith)
    by_kind i y a (printing m p r t q) e = let z : ◌≡◌ {A = ℕ} 0 1 = cc in absurd (omega arith)
    by_kind i y a (moving x p h t q) e = let z : ◌≡◌ {A = ℕ} 0 1 = cc in absurd (omega arith)
    by_kind i y a (counting l p h t q) e = let z : ◌≡◌ {A = ℕ} 0 1 = cc in absurd (omega arith)
    by_kind i y a (replaying l p h t q) e = let z : ◌≡◌ {A = ℕ} 0 1 = cc in absurd (omega arith)

    go : (i : Kind) (y : Reply) → OneAnswer σ number s i y → y.answer ≡ A.Backup k n → Backed σ y
    go i y (blank q p) e = let d = sym (ap (λ (z : Reply). z.answer) p) ∙ e in let z : ◌≡◌ {A = ℕ} 0 1 = cc in absurd (omega arith)
    go i y (refusing r p) e = let d = sym (ap (λ (z : Reply). z.answer) p) ∙ e in let z : ◌≡◌ {A = ℕ} 0 1 = cc in absurd (omega arith)
    go i y (accepted a p) e = by_kind i y a p e

pub backup-steps : (σ : Session) (number : ℕ) (s : List ℕ) (k n : ℕ) → (reply σ number s).answer ≡ A.Backup k n → (reply σ number s).session.held.steps ≡ suc σ.held.steps
backup-steps σ number s k n e =
    let b = backup-read σ number s k n e in
    ap (λ (τ : Session). τ.held.steps) b.session ∙ (backup-given σ.model σ.held b.held b.read).1

-- "It has their refusals": where (backup) is accepted, (best) is refused by 20 or 15 or not at all
pub backup-best : (σ : Session) (i j : ℕ) (k rows : ℕ) → (reply σ i backup_line).answer ≡ A.Backup k rows
    → (r : Refusal) (n : ℕ) → (reply σ j best_line).answer ≡ A.Refused r n → (r ≡ Missing) ⊎ (r ≡ Valuations)
backup-best σ i j k rows e r n f = go r (best-refuses σ j r n f)
  where
    b : Backed σ (reply σ i backup_line)
    b = backup-read σ i backup_line k rows e

    go : (r : Refusal) → RefusesBest σ r → (r ≡ Missing) ⊎ (r ≡ Valuations)
    go r (in-model p) = model-run (sym p ∙ b.run)
    go r (missing p v) = inl refl
    go r (stopping p q h) =
        let d = (backup-given σ.model σ.held b.held b.read).0 in
        inr (backup-large σ.model σ.held.diagram σ.held.steps _ d (in_hand σ) _ (stopped-refused σ.model (in_hand σ) σ.held.diagram _ h))

-- the session behind two lines more
pub two-lines : (ls : List (List ℕ)) (σ : Session) → σ ≡ (after_lines beginning ls).session → (s t : List ℕ) → (reply σ (suc (length ls)) s).session ≡ σ
    → (reply σ (suc (suc (length ls))) t).session ≡ (after_lines beginning (ls ++ (s ∷ t ∷ []))).session
unfolding after_lines after_line beginning
two-lines ls σ q s t stays =
    let n : (after_lines beginning ls).lines ≡ length ls = lines-count beginning ls ∙ zero-add (length ls) in
    ap (λ (τ : Session). (reply τ (suc (suc (length ls))) t).session) (sym stays)
    ∙ ap₂ (λ (τ : Session) (i : ℕ). (reply (reply τ (suc i) s).session (suc (suc i)) t).session) q (sym n)
    ∙ ap (λ (p : Progress). p.session) (sym (after_then beginning ls (s ∷ t ∷ [])))
