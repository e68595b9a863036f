-- A combination is the only reduced ordered diagram with its meaning (demand 2), done with names shared or apart.
use Rattle.std.specs.Prelude.{◌≡◌, refl, Bool, true, false, cond, not, ◌||◌, List, ◌++◌, ℕ, ◌+◌, ◌*◌, ◌≤◌, length, take, drop}
use Rattle.std.proofs.Common.{ap₂, sym, ◌∙◌, subst, arith}
use Rattle.std.proofs.Math.Dec.{ltb}
use borrow.Author.Tests.{ltb-false, not-false}
use Rattle.basics.specs.Tests.{neither}
use Rattle.refusal.specs.declared.Refusal.{Refusal}
use Rattle.refusal.specs.declared.Refusal.TheVariants.{Listing, Buffer}
use Rattle.label.specs.Limits.{first_variable, variable_count, first_minimum, minimum_count}
use Rattle.diagram.specs.Sizes.{most_rows, result_words, space_words}
use Rattle.diagram.specs.Diagram.{Diagram, eval}
use Rattle.diagram.specs.Words.{is_listing}
use Rattle.diagram.specs.Listing.{Fine, Good, listing, diagram_of}
use Rattle.diagram.specs.Listings.{is-listing-good}
use Rattle.diagram.specs.Variables.{variables, minimums, closed, after}
use Rattle.rename.specs.ClosingLaws.{closed-count, closed-good, after-fit, after-good}
use Rattle.apply.specs.declared.Operation.{Operation}
use Rattle.apply.specs.declared.Names.{Names}
use Rattle.apply.specs.declared.Names.TheVariants.{Apart, Shared}
use Rattle.apply.specs.declared.Combined.{Combined}
use Rattle.apply.specs.declared.Combined.TheVariants.{Done, Refused}
use Rattle.apply.specs.Apply.{apply}
use Rattle.apply.specs.ApplyLaws.{eval_apply}
use Rattle.apply.proofs.GoodLaws.{fine-apply, good_apply}
use Rattle.apply.specs.Combination.{operate, combination, diagram_answer, done_as, combine_answer, combine_result}
use Rattle.apply.proofs.CombinationLaws.{Accepted, done-accepted, result-done, eval-shared, good-shared}
use Rattle.uniqueness.specs.Meaning.{Choice, TheOnly, read_through, closed_meaning, TheOnlyClosed, shared_meaning, following, apart_meaning, OnlyCombined}
use Rattle.uniqueness.proofs.OnlyLaws.{good-only, only-written}
use Rattle.uniqueness.proofs.ThroughLaws.{closed-means, closed_from-means, closed-only}

module _ (op : Operation) (ar : List ℕ) (a b : Diagram) (good-a : Good ar a) (good-b : Good ar b) (n m : ℕ) where
  pub shared-only : Accepted op Shared ar a b n m → TheOnly ar (shared_meaning op a b) (combination op Shared ar a b)
  shared-only h = good-only ar (shared_meaning op a b) (combination op Shared ar a b) (good-shared op ar a b n m good-a good-b h) (λ c. eval-shared op ar c a b)

  -- the result before it is closed up
  pub apart-only : Accepted op Apart ar a b n m → TheOnlyClosed ar (apart_meaning op ar a b) (combination op Apart ar a b)
  unfolding combination after
  apart-only h = closed-only ar (apart_meaning op ar a b) before (good-only ar (apart_meaning op ar a b) before good means)
    where
      before : Diagram
      before = apply (operate op) (closed ar a) (after ar a b)

      v : ℕ
      v = length (variables ar a) + length (variables ar b)

      u : ℕ
      u = length (minimums ar a) + length (minimums ar b)

      few : (ltb variable_count v ≡ false) × (ltb minimum_count u ≡ false)
      few = neither (ltb variable_count v) (ltb minimum_count u) h.variables

      room : v ≤ variable_count
      room = ltb-false variable_count v few.0

      space : u ≤ minimum_count
      space = ltb-false minimum_count u few.1

      right : Good ar (after ar a b)
      right = after-good ar a b good-a good-b room space

      fine : Fine ar (apply (operate op) (closed ar a) (after ar a b))
      fine = fine-apply op ar (closed ar a) (after ar a b) (closed-good ar a good-a).fine right.fine h.calm

      good : Good ar (apply (operate op) (closed ar a) (after ar a b))
      good = good_apply op ar (closed ar a) (after ar a b) (closed-good ar a good-a) right h.calm
          (subst (λ (k : ℕ). k ≤ most_rows) (closed-count ar (apply (operate op) (closed ar a) (after ar a b)) good-a.arities fine) h.few)

      follows : (c : Choice) → eval c (after ar a b) ≡ eval (read_through ar (following ar a b) c) b
      follows c = closed_from-means ar (first_variable + length (variables ar a)) (first_minimum + length (minimums ar a)) b (after-fit ar a b room space) good-b c

      means : (c : Choice) → eval c (apply (operate op) (closed ar a) (after ar a b)) ≡ apart_meaning op ar a b c
      means c = eval_apply (operate op) c (closed ar a) (after ar a b) ∙ ap₂ (operate op) (closed-means ar a good-a c) (follows c)

-- ===== The call on lent words =====

-- what an accepted call has passed
record Passed (op : Operation) (names : Names) (ar x y : List ℕ) (n m : ℕ) : Type 0 where
  first : is_listing ar x ≡ true
  second : is_listing ar y ≡ true
  answered : diagram_answer op (done_as op names ar (diagram_of x) (diagram_of y)) ar (diagram_of x) (diagram_of y) ≡ Done n m

picked : (t : Bool) (r : Refusal) (o : Combined) (n m : ℕ) → cond t (Refused r) o ≡ Done n m → (t ≡ false) × (o ≡ Done n m)
picked true r o n m e = let z : ◌≡◌ {A = ℕ} 0 1 = cc in absurd (omega arith)
picked false r o n m e = (refl, e)

module _ (op : Operation) (names : Names) (ar x y : List ℕ) where
  passed : (out_length work_length n m : ℕ) → combine_answer op names ar x y out_length work_length ≡ Done n m → Passed op names ar x y n m
  unfolding combine_answer
  passed out_length work_length n m e =
      let p = picked (not (is_listing ar x)) Listing _ n m e in
      let q = picked (not (is_listing ar y)) Listing _ n m p.1 in
      let r = picked (ltb out_length result_words || ltb work_length space_words) Buffer _ n m q.1 in
      record { first = not-false _ p.0; second = not-false _ q.0; answered = r.1 }

  -- where the call is answered with n rows, the result buffer begins with the only listing that means the combination, done with the names that document 02, L12
  -- has it done with
  pub combine-only : (work_length : ℕ) (out : List ℕ) (n m : ℕ) → combine_answer op names ar x y (length out) work_length ≡ Done n m
      → OnlyCombined op (done_as op names ar (diagram_of x) (diagram_of y)) ar (diagram_of x) (diagram_of y) (take (n * 3) (combine_result op names ar x y work_length out))
  combine-only work_length out n m e =
      let p = passed (length out) work_length n m e in
      let done = done_as op names ar (diagram_of x) (diagram_of y) in
      subst (λ (ws : List ℕ). OnlyCombined op done ar (diagram_of x) (diagram_of y) (take (n * 3) ws)) (sym (result-done op names ar x y work_length out n m e))
      (words done n m out (diagram_of x) (diagram_of y) (is-listing-good ar x p.first) (is-listing-good ar y p.second)
      (done-accepted op done ar (diagram_of x) (diagram_of y) n m p.answered))
    where
      words : (names : Names) (n m : ℕ) (out : List ℕ) (a b : Diagram) → Good ar a → Good ar b → Accepted op names ar a b n m
          → OnlyCombined op names ar a b (take (n * 3) (listing (combination op names ar a b) ++ drop (length (listing (combination op names ar a b))) out))
      words Shared n m out a b good-a good-b h =
          only-written ar (shared_meaning op a b) (combination op Shared ar a b) n out (sym h.rows_are) (shared-only op ar a b good-a good-b n m h)
      words Apart n m out a b good-a good-b h =
          let t = apart-only op ar a b good-a good-b n m h in
          record {
            before = t.before;
            first = t.first;
            one = only-written ar (closed_meaning ar t.before (apart_meaning op ar a b)) (combination op Apart ar a b) n out (sym h.rows_are) t.one;
          }
