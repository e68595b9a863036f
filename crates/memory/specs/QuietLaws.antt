-- A line that prints nothing unless it is refused: what its function promises, accepted or refused; and where it may stand.
use Rattle.std.specs.Prelude.{◌≡◌, List, ℕ}
use Rattle.std.proofs.Common.{sym, ap, ◌∙◌, arith}
use Rattle.refusal.specs.declared.Refusal.{Refusal}
use Rattle.refusal.specs.declared.Refusal.TheVariants.{Place}
use Rattle.refusal.specs.Outcome.{Outcome, ok, refused}
use Rattle.text.specs.declared.Kind.{Kind}
use Rattle.answers.specs.declared.Answer.TheVariants.{Refused, Nothing}
use Rattle.session.specs.declared.Part.TheVariants.{Run}
use Rattle.session.specs.declared.Rule.TheVariants.{Misplaced}
use Rattle.session.specs.Place.{rule_of}
use Rattle.session.specs.Session.{Session}
use Rattle.session.specs.Replies.{Reply, allowed, quietly, done, words_of}
use Rattle.facts.specs.Inner.{FactIndex}
use Rattle.memory.specs.declared.Numbers.{Numbers}
use Rattle.memory.specs.Inner.{Ready, Carried, Answers}
use Rattle.memory.specs.Memory.{Memory, session_of, Stored}
use Rattle.memory.specs.CarriedLaws.{carried_same}

module _ {A : Type 0} {k : Kind} {s : List ℕ} {number : ℕ} {n : Numbers} {w : Memory} (f : A → Session) (o : Outcome A)
    (e : done (session_of n w) number k (words_of k s) ≡ quietly (session_of n w) number f o) where
  pub quiet-refused : {why : Refusal} → o ≡ refused why → Stored n w → FactIndex w.arities w.state n.live
      → Answers k s number n w (record { numbers = n; answer = Refused why number }) w
  quiet-refused p t x =
      let q = e ∙ ap (quietly (session_of n w) number f) p in
      record { answer = sym (ap (λ (r : Reply). r.answer) q); session = sym (ap (λ (r : Reply). r.session) q); stored = t; indexed = x; carried = carried_same n w }

  pub quiet-done : {a : A} {n' : Numbers} {w' : Memory} → o ≡ ok a → session_of n' w' ≡ f a → Stored n' w' → FactIndex w'.arities w'.state n'.live
      → Carried n w n' w' → Answers k s number n w (record { numbers = n'; answer = Nothing }) w'
  quiet-done p h t x c =
      let q = e ∙ ap (quietly (session_of n w) number f) p in
      record { answer = sym (ap (λ (r : Reply). r.answer) q); session = h ∙ sym (ap (λ (r : Reply). r.session) q); stored = t; indexed = x; carried = c }

-- a line that may not stand in the run is met in the model
pub no_run : {k : Kind} {s : List ℕ} {n : Numbers} {w : Memory} → rule_of k Run ≡ Misplaced → Ready k s n w → n.part ≡ Run → ⊥
unfolding allowed
no_run {k} {s} {n} {w} m r p =
    let e : ◌≡◌ {A = Outcome (Unit {0})} (refused Place) (ok tt) = sym (ap (λ q. allowed (session_of n w) (rule_of k q)) p ∙ ap (allowed (session_of n w)) m) ∙ r.place in
    let z : ◌≡◌ {A = ℕ} 0 1 = cc in
    omega arith
