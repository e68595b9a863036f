-- Laws of (cut).
use mathlib.Core.Path.{◌≡◌, refl, sym, ap, subst, ◌∙◌}
use mathlib.Core.List.{List}
use Prim.Native.Nat.{ℕ, ◌*◌}
use lib.ListN.{length, take}
use Rattle.refusal.specs.declared.Refusal.{Refusal}
use Rattle.diagram.specs.Diagram.{Diagram}
use Rattle.diagram.specs.Listing.{diagram_of}
use Rattle.cutting.specs.declared.Edge.{Edge}
use Rattle.cutting.specs.declared.Cut.{Cut}
use Rattle.cutting.specs.declared.Cut.TheVariants.{Done, Refused}
use Rattle.cutting.specs.Cut.{diagram_answer}
use Rattle.mdp.specs.Runs.{Held as Value, cut_outcome, held_with, call}
use Rattle.mdp.proofs.StepLaws.{cut-refused}
use Rattle.answers.specs.declared.Answer.{Answer}
use Rattle.answers.specs.declared.Answer.TheVariants as A
use Rattle.text.specs.declared.Kind.TheVariants as K
use Rattle.session.specs.Running.{cut_is}
use Rattle.session.specs.Replies.{call_says, done, words_of}
use Rattle.steps.specs.Steps.{ResultIn}
use Rattle.memory.specs.declared.Numbers.{Numbers}
use Rattle.memory.specs.Inner.{Ready, Answers}
use Rattle.memory.specs.Memory.{Memory, session_of}
use Rattle.run_lines.specs.Lines.{CutAnswered}
use Rattle.run_lines.proofs.HoldLaws.{with_value, call-refused, leaving, replace-answers}

module _ {s : List ℕ} (number : ℕ) {n : Numbers} {w : Memory} (r : Ready K.Cut s n w)
    {q : Cut} (a : q ≡ diagram_answer w.arities (diagram_of (take (n.held.rows * 3) w.value))) where
  abbrev D : Diagram
  D = diagram_of (take (n.held.rows * 3) w.value)

  abbrev told : Value → Answer
  told h = cut_is (diagram_answer w.arities D)

  says : done (session_of n w) number K.Cut (words_of K.Cut s) ≡ call_says (session_of n w) number told (held_with n.held.steps (cut_outcome w.arities D))
  unfolding session_of done call
  says = refl

  left-answers : {k : ℕ} {e : Edge} {m : ℕ} → q ≡ Done k e m → {value : List ℕ} → ResultIn w.arities (cut_outcome w.arities D) m value → length value ≡ length w.value
      → Answers K.Cut s number n w (record { numbers = leaving n m; answer = A.Cut k e m }) (with_value w value)
  left-answers d x l = replace-answers refl r told (cut_outcome w.arities D) says x l (ap cut_is (sym d ∙ a))

  stays-answers : {x : Refusal} → q ≡ Refused x → Answers K.Cut s number n w (record { numbers = n; answer = A.Refused x number }) w
  stays-answers {x} d = call-refused refl r told n.held.steps (cut_outcome w.arities D) says (cut-refused w.arities D x (sym a ∙ d))

module _ {number : ℕ} {n : Numbers} {ar value : List ℕ} {q : Cut} (a : q ≡ diagram_answer ar (diagram_of (take (n.held.rows * 3) value))) where
  pub cut_left : {k : ℕ} {e : Edge} {m : ℕ} → q ≡ Done k e m → {value' : List ℕ} → ResultIn ar (cut_outcome ar (diagram_of (take (n.held.rows * 3) value))) m value'
      → length value' ≡ length value → {n' : Numbers} → n' ≡ leaving n m → CutAnswered number n ar value (record { numbers = n'; answer = A.Cut k e m }) value'
  cut_left {k} {e} {m} d {value'} x l {n'} p = subst (λ (i : Numbers). CutAnswered number n ar value (record { numbers = i; answer = A.Cut k e m }) value') (sym p) (record {
    says = λ s names listings table state r. left-answers number r a d x l;
  })

  pub cut-stays : {x : Refusal} → q ≡ Refused x → CutAnswered number n ar value (record { numbers = n; answer = A.Refused x number }) value
  cut-stays d = record { says = λ s names listings table state r. stays-answers number r a d }
