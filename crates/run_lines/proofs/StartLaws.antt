-- Laws of (start).
use mathlib.Core.Path.{◌≡◌, refl, sym, ap, subst, ◌∙◌}
use mathlib.Core.List.{List}
use Prim.Native.Nat.{ℕ}
use native.Mathlib.Omega.{arith}
use lib.ListN.{length}
use Rattle.refusal.specs.declared.Refusal.{Refusal}
use Rattle.refusal.specs.Outcome.{Outcome, ok, refused, and_then}
use Rattle.mdp.specs.Model.{Model}
use Rattle.mdp.specs.Runs.{begin}
use Rattle.answers.specs.declared.Answer.TheVariants as A
use Rattle.text.specs.declared.Kind.TheVariants as K
use Rattle.session.specs.declared.Part.TheVariants.{Run}
use Rattle.session.specs.Session.{Session, with_held}
use Rattle.session.specs.ModelLines.{weighed}
use Rattle.session.specs.Running.{start_line}
use Rattle.session.specs.Replies.{Reply, quietly, done}
use Rattle.model.specs.Layout.{model_of}
use Rattle.planner.specs.declared.RunNumbers.{RunNumbers}
use Rattle.planner.specs.Inner.{Holds, Takeable, Taken}
use Rattle.planner.proofs.HeldLaws.{laid-takeable, reward-holds}
use Rattle.weights.specs.Weighing.{weighed_as, Weighable}
use Rattle.memory.specs.declared.Numbers.{Numbers}
use Rattle.memory.specs.Inner.{Ready, Answers}
use Rattle.memory.specs.Memory.{Memory, session_of}
use Rattle.memory.specs.CarriedLaws.{carried_same, carried-run}
use Rattle.memory.specs.StoredLaws.{stored-reward}
use Rattle.run_lines.specs.Lines.{running_with, StartTask, StartAnswered}
use Rattle.run_lines.specs.ReadyLaws.{start-reward}
use Rattle.run_lines.proofs.HoldLaws.{with_value, running-stored}
use Rattle.std.specs.Prelude.{Err, Ok, Result}

-- ===== What its calls require =====

module _ {n : Numbers} {ar listings table value work : List ℕ} (t : StartTask n ar listings table value work) where
  pub start-weighable : Weighable ar listings table n.head work
  unfolding model_of
  start-weighable = record {
    arities = t.laid.good.arities;
    room = t.laid.room;
    few = t.laid.few;
    actions = t.laid.actions;
    work-room = t.room.work-room;
  }

  pub start-takeable : Takeable listings n.head value
  start-takeable = laid-takeable t.laid t.room

-- ===== What the line is answered, by what the sums of weights give =====

module _ (σ τ : Session) (number : ℕ) where
  abbrev line : Outcome (Unit {0}) → Reply
  line o = quietly σ number (λ ρ. ρ) (and_then o (λ u. ok τ))

  passed : (o : Outcome (Unit {0})) → weighed_as o ≡ Ok tt → (A.Nothing ≡ (line o).answer) × (τ ≡ (line o).session)
  passed (ok u) e = (refl, refl)
  passed (refused x) e = let z : ◌≡◌ {A = ℕ} 0 1 = cc in absurd (omega arith)

  failed : (o : Outcome (Unit {0})) {x : Refusal} → weighed_as o ≡ Err x → (A.Refused x number ≡ (line o).answer) × (σ ≡ (line o).session)
  failed (ok u) e = let z : ◌≡◌ {A = ℕ} 0 1 = cc in absurd (omega arith)
  failed (refused y) {x} e = let z : x ≡ y = cc in (ap (λ (r : Refusal). A.Refused r number) z, refl)

-- ===== The session behind it =====

-- the reward's m rows, and k = 0
abbrev first : ℕ → RunNumbers
first m = record { rows = m; steps = 0; power = 1 }

module _ {s : List ℕ} (number : ℕ) {n : Numbers} {w : Memory} (r : Ready K.Start s n w) {work : List ℕ}
    (t : StartTask n w.arities w.listings w.table w.value work) {q : Result (Unit {0}) Refusal}
    (a : q ≡ weighed_as (weighed w.arities n.head.total (model_of w.arities w.listings w.table n.head).actions)) where
  abbrev M : Model
  M = model_of w.arities w.listings w.table n.head

  abbrev O : Outcome (Unit {0})
  O = weighed w.arities n.head.total M.actions

  abbrev T : Session
  T = with_held (session_of n w) Run (begin M)

  begins-answers : q ≡ Ok tt → {m : ℕ} {value : List ℕ} → Taken w.listings n.head m value → length value ≡ length w.value
      → Answers K.Start s number n w (record { numbers = running_with n (first m); answer = A.Nothing }) (with_value w value)
  unfolding session_of done start_line model_of
  begins-answers e {m} {value} k l =
      let h : Holds w.arities M (begin M) (first m) value = reward-holds t.laid k in
      let p = passed (session_of n w) T number O (sym a ∙ e) in
      record {
        answer = p.0;
        session = ap (with_held (session_of n w) Run) h.is ∙ p.1;
        stored = running-stored r.stored (first m) value l h.room (record {
          reward = stored-reward r.stored (start-reward r);
          listing = h.listing;
          steps = omega arith;
          power = h.power;
        });
        indexed = r.indexed;
        carried = carried-run refl refl;
      }

  fails-answers : {x : Refusal} → q ≡ Err x → Answers K.Start s number n w (record { numbers = n; answer = A.Refused x number }) w
  unfolding session_of done start_line model_of
  fails-answers e =
      let p = failed (session_of n w) T number O (sym a ∙ e) in
      record { answer = p.0; session = p.1; stored = r.stored; indexed = r.indexed; carried = carried_same n w }

module _ {number : ℕ} {n : Numbers} {ar listings table value work : List ℕ} (t : StartTask n ar listings table value work) {q : Result (Unit {0}) Refusal}
    (a : q ≡ weighed_as (weighed ar n.head.total (model_of ar listings table n.head).actions)) where
  pub start-begins : q ≡ Ok tt → {m : ℕ} {value' : List ℕ} → Taken listings n.head m value' → length value' ≡ length value → {n' : Numbers}
      → n' ≡ running_with n (first m) → StartAnswered number n ar listings table value (record { numbers = n'; answer = A.Nothing }) value'
  start-begins e {m} {value'} k l {n'} u = subst
      (λ (x : Numbers). StartAnswered number n ar listings table value (record { numbers = x; answer = A.Nothing }) value') (sym u)
      (record { says = λ s names state r. begins-answers number r t a e k l })

  pub start-fails : {x : Refusal} → q ≡ Err x → StartAnswered number n ar listings table value (record { numbers = n; answer = A.Refused x number }) value
  start-fails e = record { says = λ s names state r. fails-answers number r t a e }
