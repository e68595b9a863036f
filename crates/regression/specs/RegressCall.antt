-- What regression and freeing answer and write, on lent listings (document 01, sections 'Regression' and 'Refusals by trade word').
use Rattle.std.specs.Prelude.{Bool, true, false, not, ◌&&◌, ◌||◌, cond, List, ◌++◌, ℕ, zero, suc, ◌+◌, ◌*◌, ◌-◌, length, get_or, take, drop, ltb, eqb}
use Rattle.std.proofs.Math.Option.{Option, some, none}
use Rattle.refusal.specs.declared.Refusal.TheVariants.{Listing, Buffer, Truth, Unbound, Range, Variables}
use Rattle.refusal.specs.Outcome.{Outcome, ok, refused}
use Rattle.label.specs.Limits.{first_parameter, parameter_count, first_variable, variable_count, first_minimum, minimum_count, predicate_count}
use Rattle.diagram.specs.Sizes.{result_words, space_words}
use Rattle.diagram.specs.Diagram.{Diagram, leaf, branch}
use Rattle.diagram.specs.Rows.{rows}
use Rattle.diagram.specs.Words.{is_listing}
use Rattle.diagram.specs.Listing.{listing, diagram_of}
use Rattle.diagram.specs.Variables.{occurs}
use Rattle.rename.specs.Freeing.{freed}
use Rattle.regression.specs.Regression.{Truths, regressed}
use Rattle.refusal.specs.declared.Refusal.{Refusal}
use Rattle.std.specs.Prelude.{Err, Ok, Result}

-- the lent truth diagrams: their words one after the other, and for predicate p two words of `spans`, where its listing begins and how many words it has.
-- No words: no truth diagram. Equality stays, so the words for predicate 0 are not read.
abbrev pub truth_count : List ℕ → ℕ → ℕ
truth_count spans p = get_or spans (p * 2 + 1) 0

abbrev pub truth_words : List ℕ → List ℕ → ℕ → List ℕ
truth_words truths spans p = take (truth_count spans p) (drop (get_or spans (p * 2) 0) truths)

unfoldable pub truths_of : List ℕ → List ℕ → Truths
unfolding diagram_of
truths_of truths spans p = cond (eqb (truth_count spans p) 0) none (some (diagram_of (truth_words truths spans p)))

-- the truth diagrams of the n predicates from p on are listings
unfoldable pub are_listings : List ℕ → List ℕ → List ℕ → ℕ → ℕ → Bool
unfolding is_listing
are_listings ar truths spans p zero = true
are_listings ar truths spans p (suc n) =
    (eqb (truth_count spans p) 0 || is_listing ar (truth_words truths spans p)) && are_listings ar truths spans (suc p) n

-- a leaf above 1
unfoldable pub leaf_above : ℕ → Diagram → Bool
leaf_above m (leaf v) = ltb m v
leaf_above m (branch l t f) = leaf_above m t || leaf_above m f

-- one of the n terms from t on occurs in d
unfoldable pub any_occurs : List ℕ → Diagram → ℕ → ℕ → Bool
unfolding occurs
any_occurs ar d t zero = false
any_occurs ar d t (suc n) = occurs ar t d || any_occurs ar d (suc t) n

-- a variable that is no argument of a predicate of the arity n: the arguments are the first n variables. The minimum variables follow at once, and none is one (document 02, L12)
abbrev pub unbound_variable : List ℕ → ℕ → Diagram → Bool
unbound_variable ar n d = any_occurs ar d (first_variable + n) (variable_count + minimum_count - n)

-- 7, then 6, for a lent truth diagram
abbrev pub check_truth : {A : Type 0} → List ℕ → ℕ → Option Diagram → Outcome A → Outcome A
check_truth ar n none after = after
check_truth ar n (some d) after =
    cond (leaf_above 1 d) (refused Truth) (cond (unbound_variable ar n d) (refused Unbound) after)

-- diagram by diagram: those of the n predicates from p on
unfoldable pub check_truths : {A : Type 0} → List ℕ → Truths → ℕ → ℕ → Outcome A → Outcome A
unfolding leaf_above any_occurs
check_truths ar truths p zero after = after
check_truths ar truths p (suc n) after = check_truth ar (get_or ar p 0) (truths p) (check_truths ar truths (suc p) n after)

-- a library call checks 14 by operand, the value listing first, then the truth diagrams by predicate number; 18; 7, then 6, diagram by diagram; then the
-- operation's own, 10, 11 and 9
unfoldable pub regress_outcome : List ℕ → List ℕ → List ℕ → List ℕ → ℕ → ℕ → Outcome Diagram
unfolding are_listings truths_of check_truths regressed diagram_of is_listing
regress_outcome ar value truths spans out_length work_length =
    cond (not (is_listing ar value)) (refused Listing)
    (cond (not (are_listings ar truths spans 1 (predicate_count - 1))) (refused Listing)
    (cond (ltb out_length result_words || ltb work_length space_words) (refused Buffer)
    (check_truths ar (truths_of truths spans) 1 (predicate_count - 1)
    (regressed ar (truths_of truths spans) (diagram_of value)))))

abbrev pub regressed_as : Outcome Diagram → Result ℕ Refusal
regressed_as (ok d) = Ok (length (rows d))
regressed_as (refused r) = Err r

-- the result buffer after a call: words behind a result stay, and a refused call changes none
abbrev pub written_as : Outcome Diagram → List ℕ → List ℕ
written_as (ok d) out = listing d ++ drop (length (listing d)) out
written_as (refused r) out = out

unfoldable pub regress_answer : List ℕ → List ℕ → List ℕ → List ℕ → ℕ → ℕ → Result ℕ Refusal
unfolding regress_outcome rows
regress_answer ar value truths spans out_length work_length = regressed_as (regress_outcome ar value truths spans out_length work_length)

unfoldable pub regress_result : List ℕ → List ℕ → List ℕ → List ℕ → ℕ → List ℕ → List ℕ
unfolding regress_outcome listing
regress_result ar value truths spans work_length out = written_as (regress_outcome ar value truths spans (length out) work_length) out

-- freeing turns parameter i into variable i and moves the other variables up by the parameter count; a variable that would pass 127 is 8; minimum variables stay
unfoldable pub freed_outcome : List ℕ → ℕ → Diagram → Outcome Diagram
unfolding any_occurs freed
freed_outcome ar c d = cond (any_occurs ar d (first_minimum - c) c) (refused Variables) (ok (freed ar c d))

-- a parameter past the count is 6
unfoldable pub free_own : List ℕ → List ℕ → ℕ → Outcome Diagram
unfolding diagram_of any_occurs freed_outcome
free_own ar words count =
    cond (any_occurs ar (diagram_of words) (first_parameter + count) (parameter_count - count)) (refused Unbound)
    (freed_outcome ar count (diagram_of words))

-- a library call checks 14 and 18, and a parameter count above 4 is 4; then freeing's own, 6 and 8
unfoldable pub free_outcome : List ℕ → List ℕ → ℕ → ℕ → ℕ → Outcome Diagram
unfolding is_listing free_own
free_outcome ar words count out_length work_length =
    cond (not (is_listing ar words)) (refused Listing)
    (cond (ltb out_length result_words || ltb work_length space_words) (refused Buffer)
    (cond (ltb parameter_count count) (refused Range)
    (free_own ar words count)))

abbrev pub freed_as : Outcome Diagram → Result ℕ Refusal
freed_as (ok d) = Ok (length (rows d))
freed_as (refused r) = Err r

unfoldable pub free_answer : List ℕ → List ℕ → ℕ → ℕ → ℕ → Result ℕ Refusal
unfolding free_outcome rows
free_answer ar words count out_length work_length = freed_as (free_outcome ar words count out_length work_length)

unfoldable pub free_result : List ℕ → List ℕ → ℕ → ℕ → List ℕ → List ℕ
unfolding free_outcome listing
free_result ar words count work_length out = written_as (free_outcome ar words count (length out) work_length) out
