-- What holds where a line stands where it may: what the line's function requires.
use Rattle.std.specs.Prelude.{◌≡◌, refl, true, List, ℕ, ◌≤◌, length}
use Rattle.std.proofs.Common.{arith}
use Rattle.basics.specs.Tests.{and_left}
use Rattle.refusal.specs.declared.Refusal.TheVariants.{Place}
use Rattle.refusal.specs.Outcome.{ok}
use Rattle.mdp.specs.Model.{GoodModel}
use Rattle.text.specs.declared.Kind.{Kind}
use Rattle.text.specs.declared.Kind.TheVariants.{Start, Value, Backup, Cut, Reduce, Text}
use Rattle.session.specs.declared.Part.{Part}
use Rattle.session.specs.declared.Part.TheVariants.{Model, Run}
use Rattle.session.specs.declared.Rule.TheVariants.{Misplaced}
use Rattle.session.specs.Session.{Session}
use Rattle.session.specs.Place.{rule_of}
use Rattle.session.specs.Replies.{is_whole, is_placed, allowed}
use Rattle.facts.specs.Words.{live_of}
use Rattle.model.specs.Layout.{model_of}
use Rattle.planner.specs.Inner.{Room, ReplaceTask}
use Rattle.memory.specs.declared.Numbers.{Numbers}
use Rattle.memory.specs.Inner.{Ready}
use Rattle.memory.specs.Memory.{Memory, session_of, Stored, work_words}
use Rattle.memory.specs.StoredLaws.{stored-reward}
use Rattle.memory.specs.RunLaws.{in-run, unrefused, run-holding, run-within, stored-laid, run-laid, placed-state}
use Rattle.run_lines.specs.Lines.{StartTask, ValueTask, BackupTask, TextTask}

-- room for a value and for the rows formed
stored-room : {n : Numbers} {w : Memory} {work : List ℕ} → Stored n w → work_words ≤ length work → Room w.value work
stored-room s l = record { value_room = s.value_room; work-room = omega (arith, l) }

-- ===== (start) =====

placed-whole : (σ : Session) (p : Part) → allowed σ (rule_of Start p) ≡ ok tt → is_whole σ ≡ true
unfolding allowed
placed-whole σ Model e = unrefused Place (is_whole σ) e
placed-whole σ Run e = let z : ◌≡◌ {A = ℕ} 0 1 = cc in absurd (omega arith)

module _ {s : List ℕ} {n : Numbers} {w : Memory} (r : Ready Start s n w) where
  pub start-reward : n.reward ≡ true
  unfolding session_of
  start-reward = and_left n.reward _ (placed-whole (session_of n w) n.part r.place)

  start-good : GoodModel (model_of w.arities w.listings w.table n.head)
  unfolding session_of
  start-good =
      let g = r.good in
      let p = g.parts in
      let d = p.reward start-reward in
      record {
        arities = g.tables.arities;
        total-some = p.total-some;
        total-few = p.total-few;
        denominator-some = p.denominator-some;
        denominator-few = p.denominator-few;
        numerator-few = p.numerator-few;
        reward-listed = d.listed;
        reward-closed = d.is-closed;
        reward = d.within;
        actions-few = omega (arith, g.agreeing.count, g.tables.actions);
        actions = p.actions;
      }

  pub start-task : {work : List ℕ} → work_words ≤ length work → StartTask n w.arities w.listings w.table w.value work
  start-task l = record { laid = stored-laid r.stored start-good (stored-reward r.stored start-reward); room = stored-room r.stored l }

-- ===== (value) =====

value-placed : (σ : Session) (p : Part) → allowed σ (rule_of Value p) ≡ ok tt → is_placed σ ≡ true
unfolding allowed
value-placed σ Run e = unrefused Place (is_placed σ) e
value-placed σ Model e = let z : ◌≡◌ {A = ℕ} 0 1 = cc in absurd (omega arith)

pub value-task : {s : List ℕ} {n : Numbers} {w : Memory} {work : List ℕ} → Ready Value s n w → work_words ≤ length work
    → ValueTask n w.arities w.state w.value work
unfolding live_of
value-task {s} {n} {w} r l = record {
  live = r.stored.live;
  indexed = r.indexed;
  lent = placed-state r (value-placed (session_of n w) n.part r.place);
  listing = (run-holding refl r).listing;
  rows = r.stored.value-rows;
  room = omega (arith, l);
}

-- ===== (backup) =====

module _ {s : List ℕ} {n : Numbers} {w : Memory} (r : Ready Backup s n w) where
  pub backup-task : {work : List ℕ} → work_words ≤ length work → BackupTask n w.arities w.listings w.table w.value work
  backup-task l =
      let h = run-holding refl r in
      record {
        laid = run-laid refl r;
        callable = record { listing = h.listing; room = r.stored.value-rows; within = run-within refl r; steps = h.steps; power = h.power };
        room = stored-room r.stored l;
      }

-- ===== (cut) and (reduce) =====

replace-task : {k : Kind} {s : List ℕ} {n : Numbers} {w : Memory} {work : List ℕ} → rule_of k Model ≡ Misplaced → Ready k s n w → work_words ≤ length work
    → ReplaceTask w.arities n.held w.value work
replace-task e r l = record {
  listing = (run-holding e r).listing;
  room = r.stored.value-rows;
  value_room = r.stored.value_room;
  work-room = omega (arith, l);
}

pub cut-task : {s : List ℕ} {n : Numbers} {w : Memory} {work : List ℕ} → Ready Cut s n w → work_words ≤ length work → ReplaceTask w.arities n.held w.value work
cut-task r l = replace-task refl r l

pub reduce-task : {s : List ℕ} {n : Numbers} {w : Memory} {work : List ℕ} → Ready Reduce s n w → work_words ≤ length work → ReplaceTask w.arities n.held w.value work
reduce-task r l = replace-task refl r l

-- ===== (text) =====

-- the names declared, and the value's listing, once the run has begun
pub stored-text : {n : Numbers} {w : Memory} → Stored n w → n.part ≡ Run → TextTask n w.names w.arities w.value
stored-text s p =
    let v = s.vocabulary.names in
    record { named = record { words = v.room; constants-few = v.constants; predicates-few = v.predicates }; listing = (s.holding p).listing; rows = s.value-rows }

pub text-task : {s : List ℕ} {n : Numbers} {w : Memory} → Ready Text s n w → TextTask n w.names w.arities w.value
text-task r = stored-text r.stored (in-run refl r)
