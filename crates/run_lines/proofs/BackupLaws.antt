-- Laws of (backup).
use mathlib.Core.Path.{◌≡◌, refl, sym, ap, subst, ◌∙◌}
use mathlib.Core.List.{List}
use Prim.Native.Nat.{ℕ, ◌+◌, ◌*◌, ◌^◌, ◌≤◌}
use native.Mathlib.Omega.{arith}
use native.Mathlib.Numerals.{add-one}
use lib.ListN.{length, take}
use Rattle.basics.specs.Tests.{Flag, is_true, is_false, flag}
use Rattle.refusal.specs.declared.Refusal.{Refusal}
use Rattle.diagram.specs.Diagram.{Diagram}
use Rattle.diagram.specs.Listing.{diagram_of}
use Rattle.refusal.specs.Outcome.{Outcome, ok}
use Rattle.regression.specs.RegressCall.{written_as}
use Rattle.mdp.specs.Model.{Model, scale}
use Rattle.mdp.specs.Backup.{most_steps, scale_ends, backup}
use Rattle.mdp.specs.Runs.{held_with, call}
use Rattle.mdp.proofs.StepLaws.{on-scale, backup-ends}
use Rattle.answers.specs.declared.Answer.TheVariants as A
use Rattle.text.specs.declared.Kind.TheVariants as K
use Rattle.session.specs.Running.{backup_is}
use Rattle.session.specs.Replies.{call_says, done, words_of}
use Rattle.model.specs.Layout.{model_of}
use Rattle.steps.specs.GivenLaws.{result_count}
use Rattle.planner.specs.declared.RunNumbers.{RunNumbers}
use Rattle.planner.specs.Backed.{BackedUp}
use Rattle.planner.proofs.HeldLaws.{backup-result, backup-refused, backup-power}
use Rattle.memory.specs.declared.Numbers.{Numbers}
use Rattle.memory.specs.Inner.{Ready, Answers}
use Rattle.memory.specs.Memory.{Memory, session_of}
use Rattle.run_lines.specs.Lines.{running_with, BackupTask, BackupAnswered}
use Rattle.run_lines.proofs.HoldLaws.{with_value, call-answers, call-refused}
use Rattle.std.specs.Prelude.{Err, Ok, Result}

-- k is below 10^18 where a backup is accepted
few-steps : (m : Model) (k : ℕ) (d : Diagram) {e : Diagram} → k ≤ most_steps → backup m k d ≡ ok e → k + 1 ≤ most_steps
few-steps m k d l e = go (flag (scale_ends m k))
  where
    go : Flag (scale_ends m k) → k + 1 ≤ most_steps
    go (is_true q) = let f = sym (backup-ends m k d q) ∙ e in let z : ◌≡◌ {A = ℕ} 0 1 = cc in absurd (omega arith)
    go (is_false q) = let f = (on-scale m k q).1 in omega arith

-- one backup more: m rows, k + 1, and S^(k+1)
abbrev next : Numbers → ℕ → ℕ → RunNumbers
next n m p = record { rows = m; steps = n.held.steps + 1; power = p }

module _ {s : List ℕ} (number : ℕ) {n : Numbers} {w : Memory} (r : Ready K.Backup s n w) {work : List ℕ}
    (t : BackupTask n w.arities w.listings w.table w.value work) {q : Result (ℕ × ℕ) Refusal} {value : List ℕ}
    (b : BackedUp w.arities (model_of w.arities w.listings w.table n.head) n.held.steps (diagram_of (take (n.held.rows * 3) w.value)) q w.value value) where
  abbrev M : Model
  M = model_of w.arities w.listings w.table n.head

  abbrev D : Diagram
  D = diagram_of (take (n.held.rows * 3) w.value)

  says : done (session_of n w) number K.Backup (words_of K.Backup s) ≡ call_says (session_of n w) number backup_is (held_with (n.held.steps + 1) (backup M n.held.steps D))
  unfolding session_of done call
  says = ap (λ (j : ℕ). call_says (session_of n w) number backup_is (held_with j (backup M n.held.steps D))) (sym (add-one n.held.steps))

  made-answers : {m p : ℕ} → q ≡ Ok (m, p) → length value ≡ length w.value
      → Answers K.Backup s number n w (record { numbers = running_with n (next n m p); answer = A.Backup (n.held.steps + 1) m }) (with_value w value)
  made-answers e l =
      let x = backup-result b e in
      call-answers refl r backup_is (n.held.steps + 1) (backup M n.held.steps D) says x (backup-power b e ∙ ap (λ (j : ℕ). scale M ^ j) (sym (add-one n.held.steps)))
      (few-steps M n.held.steps D t.callable.steps x.is) l (ap (A.Backup (n.held.steps + 1)) (sym (result_count x)))

  stops-answers : {x : Refusal} → q ≡ Err x → Answers K.Backup s number n w (record { numbers = n; answer = A.Refused x number }) (with_value w value)
  stops-answers {x} e =
      let z = backup-refused b e in
      subst (λ (v : List ℕ). Answers K.Backup s number n w (record { numbers = n; answer = A.Refused x number }) (with_value w v))
      (sym (b.words ∙ ap (λ (o : Outcome Diagram). written_as o w.value) z)) (call-refused refl r backup_is (n.held.steps + 1) (backup M n.held.steps D) says z)

module _ {number : ℕ} {n : Numbers} {ar listings table value work : List ℕ} (t : BackupTask n ar listings table value work) {q : Result (ℕ × ℕ) Refusal} {value' : List ℕ}
    (b : BackedUp ar (model_of ar listings table n.head) n.held.steps (diagram_of (take (n.held.rows * 3) value)) q value value') where
  pub backup-made : {m p : ℕ} → q ≡ Ok (m, p) → length value' ≡ length value → {n' : Numbers} → n' ≡ running_with n (next n m p)
      → BackupAnswered number n ar listings table value (record { numbers = n'; answer = A.Backup (n.held.steps + 1) m }) value'
  backup-made {m} {p} e l {n'} u = subst
      (λ (x : Numbers). BackupAnswered number n ar listings table value (record { numbers = x; answer = A.Backup (n.held.steps + 1) m }) value') (sym u)
      (record { says = λ s names state r. made-answers number r t b e l })

  pub backup-stops : {x : Refusal} → q ≡ Err x → BackupAnswered number n ar listings table value (record { numbers = n; answer = A.Refused x number }) value'
  backup-stops e = record { says = λ s names state r. stops-answers number r t b e }
