-- Laws of what a combination answers: one for each check, and what an accepted call is.
use Rattle.std.specs.Prelude.{◌≡◌, refl, Bool, true, false, cond, ◌||◌, List, [], ◌++◌, ℕ, ◌+◌, ◌≤◌, length, drop, ltb}
use Rattle.std.proofs.Common.{arith}
use borrow.Author.Tests.{le-ltb, ltb-false}
use Rattle.basics.specs.Members.{NoDup}
use Rattle.refusal.specs.declared.Refusal.{Refusal}
use Rattle.refusal.specs.declared.Refusal.TheVariants.{Listing, Buffer, Variables, Pairs, Value, Space}
use Rattle.diagram.specs.Sizes.{most_rows, space_rows, most_pairs, result_words, space_words}
use Rattle.diagram.specs.Diagram.{Diagram, same, eval}
use Rattle.diagram.specs.Rows.{onto, rows}
use Rattle.diagram.specs.Words.{is_listing}
use Rattle.diagram.specs.Listing.{listing, diagram_of, Good}
use Rattle.label.specs.Limits.{variable_count, minimum_count}
use Rattle.diagram.specs.Variables.{variables, minimums, closed, after}
use Rattle.apply.specs.declared.Operation.{Operation}
use Rattle.apply.specs.declared.Names.{Names}
use Rattle.apply.specs.declared.Names.TheVariants.{Apart, Shared}
use Rattle.apply.specs.declared.Combined.{Combined}
use Rattle.apply.specs.declared.Combined.TheVariants.{Done, Refused}
use Rattle.apply.specs.Apply.{apply}
use Rattle.apply.specs.Pairs.{pairs, pair_count, overflows}
use Rattle.apply.specs.Inner.{ClosedRows}
use Rattle.apply.specs.ApplyLaws.{eval_apply}
use Rattle.apply.proofs.RowLaws.{rows-onto, nothing-rows, onto-closed, onto-nodup}
use Rattle.apply.proofs.FormedLaws.{formed-count}
use Rattle.apply.proofs.GoodLaws.{good_apply}
use Rattle.apply.specs.Combination.{operate, left_operand, right_operand, combination, too_many, operand_rows, rows_formed, diagram_answer, done_as, combine_answer, combine_result}

-- the rows formed are the operands' as renamed and those of the result before it is closed up
pub operands-closed : (names : Names) (ar : List ℕ) (a b : Diagram) → ClosedRows (operand_rows names ar a b)
operands-closed Apart ar a b = onto-closed (after ar a b) (onto (closed ar a) []) (onto-closed (closed ar a) [] nothing-rows)
operands-closed Shared ar a b = nothing-rows

pub operands-nodup : (names : Names) (ar : List ℕ) (a b : Diagram) → NoDup same (operand_rows names ar a b)
operands-nodup Apart ar a b = onto-nodup (after ar a b) (onto (closed ar a) []) (onto-nodup (closed ar a) [] tt)
operands-nodup Shared ar a b = tt

pub rows-formed : (op : Operation) (names : Names) (ar : List ℕ) (a b : Diagram)
    → rows_formed op names ar a b ≡ length (onto (apply (operate op) (left_operand names ar a b) (right_operand names ar a b)) (operand_rows names ar a b))
unfolding rows_formed
rows-formed op names ar a b =
    formed-count op (operand_rows names ar a b) (left_operand names ar a b) (right_operand names ar a b) (operands-closed names ar a b) (operands-nodup names ar a b)

-- a shared call forms its result's rows
pub rows-shared : (op : Operation) (ar : List ℕ) (a b : Diagram) → rows_formed op Shared ar a b ≡ length (rows (combination op Shared ar a b))
unfolding combination
rows-shared op ar a b = rw (rows-formed op Shared ar a b, rows-onto (apply (operate op) a b))

-- the checks of a call, in order
module _ (op : Operation) (names : Names) (ar x y : List ℕ) (out_length work_length : ℕ) where
  pub answer-first : is_listing ar x ≡ false → combine_answer op names ar x y out_length work_length ≡ Refused Listing
  unfolding combine_answer
  answer-first e = rw e

  pub answer-second : is_listing ar x ≡ true → is_listing ar y ≡ false → combine_answer op names ar x y out_length work_length ≡ Refused Listing
  unfolding combine_answer
  answer-second e d = rw (e, d)

  pub answer-buffer : is_listing ar x ≡ true → is_listing ar y ≡ true → (ltb out_length result_words || ltb work_length space_words) ≡ true
      → combine_answer op names ar x y out_length work_length ≡ Refused Buffer
  unfolding combine_answer
  answer-buffer e d h = rw (e, d, h)

  pub answer-diagrams : is_listing ar x ≡ true → is_listing ar y ≡ true → result_words ≤ out_length → space_words ≤ work_length
      → combine_answer op names ar x y out_length work_length ≡ diagram_answer op (done_as op names ar (diagram_of x) (diagram_of y)) ar (diagram_of x) (diagram_of y)
  unfolding combine_answer
  answer-diagrams e d h k = rw (e, d, le-ltb out_length result_words h, le-ltb work_length space_words k)

-- 8 is met exactly where a kind passes its limit
pub not-many : (ar : List ℕ) (a b : Diagram) → length (variables ar a) + length (variables ar b) ≤ variable_count
    → length (minimums ar a) + length (minimums ar b) ≤ minimum_count → too_many Apart ar a b ≡ false
not-many ar a b v u =
    rw (le-ltb variable_count (length (variables ar a) + length (variables ar b)) v, le-ltb minimum_count (length (minimums ar a) + length (minimums ar b)) u)

module _ (op : Operation) (names : Names) (ar : List ℕ) (a b : Diagram) where
  pub diagrams-variables : too_many names ar a b ≡ true → diagram_answer op names ar a b ≡ Refused Variables
  unfolding diagram_answer
  diagrams-variables e = rw e

-- an accepted combination: no check refuses it, and the answer has its rows and its pairs
pub record Accepted (op : Operation) (names : Names) (ar : List ℕ) (a b : Diagram) (n m : ℕ) : Type 0 where
  pub variables : too_many names ar a b ≡ false
  pub pairs-few : pair_count op (left_operand names ar a b) (right_operand names ar a b) ≤ most_pairs
  pub calm : overflows (operate op) (pairs op (left_operand names ar a b) (right_operand names ar a b)) ≡ false
  pub room : rows_formed op names ar a b ≤ space_rows
  pub few : length (rows (combination op names ar a b)) ≤ most_rows
  pub rows_are : n ≡ length (rows (combination op names ar a b))
  pub pairs-are : m ≡ pair_count op (left_operand names ar a b) (right_operand names ar a b)

pub accepted-done : (op : Operation) (names : Names) (ar : List ℕ) (a b : Diagram) (n m : ℕ) → Accepted op names ar a b n m → diagram_answer op names ar a b ≡ Done n m
unfolding diagram_answer
accepted-done op names ar a b n m h =
    rw (
      h.variables,
      le-ltb most_pairs (pair_count op (left_operand names ar a b) (right_operand names ar a b)) h.pairs-few,
      h.calm,
      le-ltb space_rows (rows_formed op names ar a b) h.room,
      le-ltb most_rows (length (rows (combination op names ar a b))) h.few,
      h.rows_are,
      h.pairs-are,
    )

pick-done : (t : Bool) (r : Refusal) (x : Combined) (n m : ℕ) → cond t (Refused r) x ≡ Done n m → (t ≡ false) × (x ≡ Done n m)
pick-done true r x n m e = let z : ◌≡◌ {A = ℕ} 0 1 = cc in absurd (omega arith)
pick-done false r x n m e = (refl, e)

pub done-accepted : (op : Operation) (names : Names) (ar : List ℕ) (a b : Diagram) (n m : ℕ) → diagram_answer op names ar a b ≡ Done n m → Accepted op names ar a b n m
unfolding diagram_answer
done-accepted op names ar a b n m e =
    let p = pick-done (too_many names ar a b) Variables _ n m e in
    let q = pick-done (ltb most_pairs (pair_count op (left_operand names ar a b) (right_operand names ar a b))) Pairs _ n m p.1 in
    let r = pick-done (overflows (operate op) (pairs op (left_operand names ar a b) (right_operand names ar a b))) Value _ n m q.1 in
    let s = pick-done (ltb space_rows (rows_formed op names ar a b)) Space _ n m r.1 in
    let t = pick-done (ltb most_rows (length (rows (combination op names ar a b)))) Space _ n m s.1 in
    let d = t.1 in
    record {
      variables = p.0;
      pairs-few = ltb-false most_pairs (pair_count op (left_operand names ar a b) (right_operand names ar a b)) q.0;
      calm = r.0;
      room = ltb-false space_rows (rows_formed op names ar a b) s.0;
      few = ltb-false most_rows (length (rows (combination op names ar a b))) t.0;
      rows_are = cc;
      pairs-are = cc;
    }

-- the result buffer
pub result-refused : (op : Operation) (names : Names) (ar x y : List ℕ) (work_length : ℕ) (out : List ℕ) (r : Refusal)
    → combine_answer op names ar x y (length out) work_length ≡ Refused r → combine_result op names ar x y work_length out ≡ out
unfolding combine_result
result-refused op names ar x y work_length out r e = rw e

pub result-done : (op : Operation) (names : Names) (ar x y : List ℕ) (work_length : ℕ) (out : List ℕ) (n m : ℕ)
    → combine_answer op names ar x y (length out) work_length ≡ Done n m
    → combine_result op names ar x y work_length out
    ≡ (let d = combination op (done_as op names ar (diagram_of x) (diagram_of y)) ar (diagram_of x) (diagram_of y) in listing d ++ drop (length (listing d)) out)
unfolding combine_result
result-done op names ar x y work_length out n m e = rw e

-- a combination with shared names: its meaning, and that it is good
pub eval-shared : (op : Operation) (ar : List ℕ) (c : ℕ → Bool) (a b : Diagram) → eval c (combination op Shared ar a b) ≡ operate op (eval c a) (eval c b)
unfolding combination
eval-shared op ar c a b = eval_apply (operate op) c a b

pub good-shared : (op : Operation) (ar : List ℕ) (a b : Diagram) (n m : ℕ) → Good ar a → Good ar b → Accepted op Shared ar a b n m → Good ar (combination op Shared ar a b)
unfolding combination
good-shared op ar a b n m x y h = good_apply op ar a b x y h.calm h.few
