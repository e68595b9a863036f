-- Laws of (reduce).
use mathlib.Core.Path.{◌≡◌, refl, sym, ap, subst, ◌∙◌}
use mathlib.Core.List.{List}
use Prim.Native.Nat.{ℕ, ◌*◌, ◌≤◌}
use native.Mathlib.Omega.{arith}
use lib.ListN.{length, take, replicate, length-replicate}
use Rattle.refusal.specs.declared.Refusal.{Refusal}
use Rattle.refusal.specs.Outcome.{Outcome, ok, refused, Accepted}
use Rattle.diagram.specs.Sizes.{result_words}
use Rattle.diagram.specs.Diagram.{Diagram}
use Rattle.diagram.specs.Listing.{diagram_of, Good}
use Rattle.diagram.specs.Listings.{is-listing-good}
use Rattle.regression.specs.RegressCall.{written_as}
use Rattle.cutting.specs.Cut.{written}
use Rattle.reduction.specs.Reduction.{reduce_answer, answer_of, buffer_of}
use Rattle.reduction.proofs.ReductionLaws.{answered, reduced-listed}
use Rattle.reduce.specs.Winning.{Reducible, ReduceCallAnswered}
use Rattle.mdp.specs.Runs.{held_with, call}
use Rattle.answers.specs.declared.Answer.TheVariants as A
use Rattle.text.specs.declared.Kind.TheVariants as K
use Rattle.session.specs.Running.{reduce_is}
use Rattle.session.specs.Replies.{call_says, done, words_of}
use Rattle.steps.specs.Steps.{step_as, ResultIn, Wrote}
use Rattle.steps.specs.GivenLaws.{result_count}
use Rattle.planner.specs.declared.RunNumbers.{RunNumbers}
use Rattle.planner.specs.Inner.{ReplaceTask}
use Rattle.memory.specs.declared.Numbers.{Numbers}
use Rattle.memory.specs.Inner.{Ready, Answers}
use Rattle.memory.specs.Memory.{Memory, session_of}
use Rattle.run_lines.specs.Lines.{ReduceAnswered}
use Rattle.run_lines.proofs.HoldLaws.{with_value, call-refused, leaving, replace-answers}
use Rattle.std.specs.Prelude.{Err, Ok}
use Rattle.std.specs.Prelude.{Result}

-- ===== The call =====

reduce-fits : (ar : List ℕ) (d : Diagram) → Good ar d → Accepted (Good ar) (reduce_answer ar d)
reduce-fits ar d g = record { given = λ r e. let a = answered ar d r e in subst (Good ar) a.is (reduced-listed ar d g a.paths-few) }

-- an answer of the call, read back
refused_as : (o : Outcome Diagram) {x : Refusal} → Err x ≡ answer_of o → o ≡ refused x
refused_as (ok d) e = let z : ◌≡◌ {A = ℕ} 0 1 = cc in absurd (omega arith)
refused_as (refused y) e = ap refused (cc)

step-as : (o : Outcome Diagram) {n : ℕ} → Ok n ≡ answer_of o → Ok n ≡ step_as o
step-as (ok d) e = ap Ok (cc)
step-as (refused y) e = let z : ◌≡◌ {A = ℕ} 0 1 = cc in absurd (omega arith)

buffer-as : (out : List ℕ) (o : Outcome Diagram) → buffer_of out o ≡ written_as o out
unfolding written
buffer-as out (ok d) = refl
buffer-as out (refused x) = refl

module _ {ar : List ℕ} {h : RunNumbers} {value work : List ℕ} (t : ReplaceTask ar h value work) where
  abbrev W : Diagram
  W = diagram_of (take (h.rows * 3) value)

  pub reduce-able : (n : ℕ) → result_words ≤ n → Reducible ar (take (h.rows * 3) value) (replicate n 0) work
  reduce-able n k = record { listing = t.listing; out-room = omega (arith, length-replicate {A = ℕ} n 0); work-room = t.work-room }

  module _ {q : Result ℕ Refusal} {out out' : List ℕ} (a : ReduceCallAnswered ar (take (h.rows * 3) value) out q out') where
    pub reduce-wrote : {n : ℕ} → q ≡ Ok n → Wrote ar (reduce_answer ar W) (Ok n) out out'
    reduce-wrote e = record {
      answer = step-as (reduce_answer ar W) (sym e ∙ a.answer);
      words = a.words ∙ buffer-as out (reduce_answer ar W);
      good = reduce-fits ar W (is-listing-good ar (take (h.rows * 3) value) t.listing);
    }

-- ===== The session behind it =====

module _ {s : List ℕ} (number : ℕ) {n : Numbers} {w : Memory} (r : Ready K.Reduce s n w) where
  abbrev O : Outcome Diagram
  O = reduce_answer w.arities (diagram_of (take (n.held.rows * 3) w.value))

  says : done (session_of n w) number K.Reduce (words_of K.Reduce s) ≡ call_says (session_of n w) number reduce_is (held_with n.held.steps O)
  unfolding session_of done call
  says = refl

  left-answers : {m : ℕ} {value : List ℕ} → ResultIn w.arities O m value → length value ≡ length w.value
      → Answers K.Reduce s number n w (record { numbers = leaving n m; answer = A.Reduce m }) (with_value w value)
  left-answers x l = replace-answers refl r reduce_is O says x l (ap A.Reduce (sym (result_count x)))

  stays-answers : {x : Refusal} → O ≡ refused x → Answers K.Reduce s number n w (record { numbers = n; answer = A.Refused x number }) w
  stays-answers e = call-refused refl r reduce_is n.held.steps O says e

module _ {number : ℕ} {n : Numbers} {ar value : List ℕ} where
  pub reduce-left : {m : ℕ} {value' : List ℕ} → ResultIn ar (reduce_answer ar (diagram_of (take (n.held.rows * 3) value))) m value' → length value' ≡ length value
      → {n' : Numbers} → n' ≡ leaving n m → ReduceAnswered number n ar value (record { numbers = n'; answer = A.Reduce m }) value'
  reduce-left {m} {value'} x l {n'} p = subst (λ (i : Numbers). ReduceAnswered number n ar value (record { numbers = i; answer = A.Reduce m }) value') (sym p) (record {
    says = λ s names listings table state r. left-answers number r x l;
  })

  pub reduce-stays : {q : Result ℕ Refusal} → q ≡ answer_of (reduce_answer ar (diagram_of (take (n.held.rows * 3) value))) → {x : Refusal} → q ≡ Err x
      → ReduceAnswered number n ar value (record { numbers = n; answer = A.Refused x number }) value
  reduce-stays a d = record { says = λ s names listings table state r. stays-answers number r (refused_as _ (sym d ∙ a)) }
