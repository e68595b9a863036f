-- What a line of the run that changes the value leaves of the other words, and what one that is a call of the run is answered.
use mathlib.Core.Path.{◌≡◌, refl, sym, ap, ◌∙◌}
use mathlib.Core.List.{List}
use Prim.Native.Nat.{ℕ, ◌*◌, ◌^◌, ◌≤◌}
use native.Mathlib.Omega.{arith}
use lib.ListN.{length, take}
use Rattle.refusal.specs.declared.Refusal.{Refusal}
use Rattle.refusal.specs.Outcome.{Outcome, refused}
use Rattle.diagram.specs.Diagram.{Diagram}
use Rattle.diagram.specs.Listing.{diagram_of}
use Rattle.mdp.specs.Model.{scale}
use Rattle.mdp.specs.Backup.{most_steps}
use Rattle.mdp.specs.Runs.{Held as Value, held_with}
use Rattle.answers.specs.declared.Answer.{Answer}
use Rattle.answers.specs.declared.Answer.TheVariants as A
use Rattle.text.specs.declared.Kind.{Kind}
use Rattle.session.specs.declared.Part.{Part}
use Rattle.session.specs.declared.Part.TheVariants.{Model}
use Rattle.session.specs.declared.Rule.TheVariants.{Misplaced}
use Rattle.session.specs.Place.{rule_of}
use Rattle.session.specs.Session.{with_held}
use Rattle.session.specs.Replies.{Reply, call_says, done, words_of}
use Rattle.model.specs.Layout.{model_of}
use Rattle.steps.specs.Steps.{ResultIn}
use Rattle.planner.specs.declared.RunNumbers.{RunNumbers}
use Rattle.planner.specs.Run.{held_in}
use Rattle.memory.specs.declared.Numbers.{Numbers}
use Rattle.memory.specs.Inner.{Ready, Answers}
use Rattle.memory.specs.Memory.{Memory, session_of, Holding, Stored}
use Rattle.memory.specs.CarriedLaws.{carried_same, carried-run}
use Rattle.memory.specs.RunLaws.{in-run, run-holding}
use Rattle.run_lines.specs.Lines.{running_with}

-- the words with another value
abbrev pub with_value : Memory → List ℕ → Memory
with_value w value = record {
  names = w.names;
  arities = w.arities;
  listings = w.listings;
  table = w.table;
  state = w.state;
  value = value;
}

pub running-stored : {n : Numbers} {w : Memory} → Stored n w → (h : RunNumbers) (value : List ℕ) → length value ≡ length w.value → h.rows * 3 ≤ length value
    → Holding (running_with n h) (with_value w value) → Stored (running_with n h) (with_value w value)
running-stored s h value e r g = record {
  vocabulary = s.vocabulary;
  building = s.building;
  listing-room = s.listing-room;
  whole = s.whole;
  reward = s.reward;
  live = s.live;
  value_room = omega (arith, s.value_room, e);
  value-rows = r;
  holding = λ run. g;
}

-- ===== What a line that is a call of the run is answered =====

-- o is what the call gives of the value diagram, j the steps behind it
module _ {k : Kind} {s : List ℕ} {number : ℕ} {n : Numbers} {w : Memory} (p : rule_of k Model ≡ Misplaced) (r : Ready k s n w) (says : Value → Answer) (j : ℕ)
    (o : Outcome Diagram) (y : done (session_of n w) number k (words_of k s) ≡ call_says (session_of n w) number says (held_with j o)) where
  -- accepted: the words hold its m rows, and S^j stands beside them
  pub call-answers : {m q : ℕ} {value : List ℕ} → ResultIn w.arities o m value → q ≡ scale (model_of w.arities w.listings w.table n.head) ^ j → j ≤ most_steps
      → length value ≡ length w.value → {a : Answer} → a ≡ says (record { diagram = diagram_of (take (m * 3) value); steps = j })
      → Answers k s number n w (record { numbers = running_with n (record { rows = m; steps = j; power = q }); answer = a }) (with_value w value)
  unfolding session_of
  call-answers {m} {q} {value} x power few l e =
      let z = y ∙ ap (λ (d : Outcome Diagram). call_says (session_of n w) number says (held_with j d)) x.is in
      let h : RunNumbers = record { rows = m; steps = j; power = q } in
      record {
        answer = e ∙ sym (ap (λ (t : Reply). t.answer) z);
        session = ap (λ (t : Part). with_held (session_of n w) t (held_in h value)) (sym (in-run p r)) ∙ sym (ap (λ (t : Reply). t.session) z);
        stored = running-stored r.stored h value l x.room (record { reward = (run-holding p r).reward; listing = x.listing; steps = few; power = power });
        indexed = r.indexed;
        carried = carried-run refl refl;
      }

  -- refused: nothing changes
  pub call-refused : {x : Refusal} → o ≡ refused x → Answers k s number n w (record { numbers = n; answer = A.Refused x number }) w
  call-refused e =
      let z = y ∙ ap (λ (d : Outcome Diagram). call_says (session_of n w) number says (held_with j d)) e in
      record {
        answer = sym (ap (λ (t : Reply). t.answer) z);
        session = sym (ap (λ (t : Reply). t.session) z);
        stored = r.stored;
        indexed = r.indexed;
        carried = carried_same n w;
      }

-- m rows instead of those held; k and S^k stay
abbrev pub leaving : Numbers → ℕ → Numbers
leaving n m = running_with n (record { rows = m; steps = n.held.steps; power = n.held.power })

-- a cut or a reduction is accepted
pub replace-answers : {k : Kind} {s : List ℕ} {number : ℕ} {n : Numbers} {w : Memory} → rule_of k Model ≡ Misplaced → Ready k s n w → (says : Value → Answer)
    (o : Outcome Diagram) → done (session_of n w) number k (words_of k s) ≡ call_says (session_of n w) number says (held_with n.held.steps o)
    → {m : ℕ} {value : List ℕ} → ResultIn w.arities o m value → length value ≡ length w.value
    → {a : Answer} → a ≡ says (record { diagram = diagram_of (take (m * 3) value); steps = n.held.steps })
    → Answers k s number n w (record { numbers = leaving n m; answer = a }) (with_value w value)
replace-answers {n = n} p r says o y x l e = let h = run-holding p r in call-answers p r says n.held.steps o y x h.power h.steps l e
