-- What holds where (best), (count n) and (did ..) stand where they may: what their functions require.
use Rattle.std.specs.Prelude.{◌≡◌, refl, true, List, ℕ, ◌+◌, ◌*◌, ◌≤◌, ◌<◌, length}
use Rattle.std.proofs.Common.{sym, ap₂, ◌∙◌, arith}
use Rattle.refusal.specs.declared.Refusal.TheVariants.{Place, Missing}
use Rattle.refusal.specs.Outcome.{ok}
use Rattle.names.specs.KeyLaws.{length-keys}
use Rattle.names.specs.Layout.{actions_at, variants_at}
use Rattle.names.specs.ManyLaws.{length-many}
use Rattle.text.specs.declared.Kind.{Kind}
use Rattle.text.specs.declared.Kind.TheVariants.{Best, Count, Did}
use Rattle.session.specs.declared.Part.{Part}
use Rattle.session.specs.declared.Part.TheVariants.{Model, Run}
use Rattle.session.specs.declared.Rule.TheVariants.{Misplaced}
use Rattle.session.specs.Session.{Session}
use Rattle.session.specs.Place.{rule_of}
use Rattle.session.specs.Replies.{is_placed, allowed}
use Rattle.declare.specs.Tables.{names_of}
use Rattle.facts.specs.Words.{live_of}
use Rattle.facts.specs.WordLaws.{index-all}
use Rattle.model.specs.Layout.{action_at, model_of}
use Rattle.model_entry.specs.NameLaws.{variants-before}
use Rattle.memory.specs.declared.Numbers.{Numbers}
use Rattle.memory.specs.Inner.{Ready}
use Rattle.memory.specs.Memory.{Memory, session_of, work_words}
use Rattle.memory.specs.WordLaws.{line-begins, line-ends}
use Rattle.memory.specs.RunLaws.{in-run, unrefused, placed-objects, run-holding, run-within, run-laid, placed-state}
use Rattle.desk_lines.specs.Lines.{MoveTask, CountTask, Agreed, DidTask}

-- names and model agree
ready-agreed : {k : Kind} {s : List ℕ} {n : Numbers} {w : Memory} → Ready k s n w → Agreed w.table n.counts n.head
unfolding session_of names_of model_of
ready-agreed {k} {s} {n} {w} r =
    let c = n.counts in
    record {
      actions = sym (length-keys w.names actions_at c.actions) ∙ (r.good.agreeing.count ∙ length-many (action_at w.listings w.table) n.head.actions);
      variants =
          sym (ap₂ ◌+◌ (length-keys w.names variants_at c.earlier) (length-keys w.names (variants_at + c.earlier * 2) c.variants))
          ∙ (r.good.agreeing.all ∙ sym (variants-before w.listings w.table n.head.actions));
    }

-- there is an action
ready-some : {k : Kind} {s : List ℕ} {n : Numbers} {w : Memory} → rule_of k Model ≡ Misplaced → Ready k s n w → 0 < n.head.actions
unfolding session_of model_of
ready-some {k} {s} {n} {w} e r = omega (arith, (r.good.begun (in-run e r)).some, length-many (action_at w.listings w.table) n.head.actions)

-- ===== (best) =====

move-placed : (σ : Session) (p : Part) → allowed σ (rule_of Best p) ≡ ok tt → is_placed σ ≡ true
unfolding allowed
move-placed σ Run e = unrefused Missing (is_placed σ) e
move-placed σ Model e = let z : ◌≡◌ {A = ℕ} 0 1 = cc in absurd (omega arith)

pub best-task : {s : List ℕ} {n : Numbers} {w : Memory} {work : List ℕ} → Ready Best s n w → work_words ≤ length work
    → MoveTask n w.names w.arities w.listings w.table w.state w.value work
unfolding live_of
best-task {s} {n} {w} r l =
    let p = move-placed (session_of n w) n.part r.place in
    record {
      named = r.stored.vocabulary.names;
      actions = (ready-agreed r).actions;
      some = ready-some refl r;
      live = r.stored.live;
      rows = r.stored.value-rows;
      task = record {
        laid = run-laid refl r;
        lent = placed-state r p;
        indexed = index-all r.stored.live (placed-objects r p) r.indexed;
        objects-few = r.stored.live.objects;
        value-listing = (run-holding refl r).listing;
        within = run-within refl r;
        work-room = omega (arith, l);
      };
    }

-- ===== (count n) =====

pub count-task : {s : List ℕ} {n : Numbers} {w : Memory} {work : List ℕ} → Ready Count s n w → work_words ≤ length work
    → CountTask s n w.arities w.state w.value work
count-task r l = record {
  begins = line-begins r.line;
  predicates = r.stored.vocabulary.names.predicates;
  live = r.stored.live;
  rows = r.stored.value-rows;
  listing = (run-holding refl r).listing;
  room = l;
}

-- ===== (did ..) =====

log-placed : (σ : Session) (p : Part) → allowed σ (rule_of Did p) ≡ ok tt → is_placed σ ≡ true
unfolding allowed
log-placed σ Run e = unrefused Place (is_placed σ) e
log-placed σ Model e = let z : ◌≡◌ {A = ℕ} 0 1 = cc in absurd (omega arith)

pub did-task : {s : List ℕ} {n : Numbers} {w : Memory} → Ready Did s n w → DidTask s n w.names w.arities w.listings w.table w.state
unfolding session_of live_of
did-task {s} {n} {w} r = record {
  begins = line-begins r.line;
  ends = line-ends r.line;
  log = record {
    named = r.stored.vocabulary.names;
    agreed = ready-agreed r;
    laid = run-laid refl r;
    live = r.stored.live;
    indexed = r.indexed;
    lent = placed-state r (log-placed (session_of n w) n.part r.place);
    count = r.good.log.count;
    total = r.good.log.total;
  };
}
