-- Regression, replacement and freeing (document 01, section 'Regression').
--
-- Definitions: steps of a call
--   Run, pure, bind == a step of a call: from the rows formed so far, its answer and the rows then; one step, then the next
--   form == a diagram's rows formed in the one working space of 2,048 rows (9)
--   combine == a combination by operation with names shared, as a step: 10, 11, 9
--
-- Definitions: the row step
--   label_test, test_diagram == the one-row test of a label; of what is asked: leaf 1 where it is t = t
--   exchanged == 1 - T: T with its leaves exchanged
--   row_step == (T times true result) + ((1 - T) times false result), in the order of document 01's steps, the rows of T and 1 - T formed
--
-- Definitions: replacement and regression
--   result_of, row_result, row_results, last_of, over_rows == the rows of a diagram in number order, each by the row step of its T
--   argument, replacement == the terms of p(t1 ..) for the arguments, all together; a diagram with its terms replaced
--   Truths, truth_of == the truth diagrams of a variant, by predicate; equality has none
--   truth_from, truth_at == T for a label: the truth diagram with its arguments replaced; without one the test of the label
--   regression, regressed == the rows of the value diagram in one working space; as one call, its result held to 1,024 rows
--   stepped, rebuilt, replaced, truth_given, truth_diagram, regressed_diagram == the same diagrams where nothing is refused, without the space
--   asked == what a test asks of a choice of true or false for all labels
--
-- Definitions: what a regression says of the next state
--   meanings == truth diagrams over what their labels say
--   Tells == what an accepted regression gives: a good diagram whose leaves are the old one's in the next state, with no new variable or parameter
--
-- Definitions: what diagrams must be
--   AtMost, Labels == no leaf is above b; every label is one under the arity list
--   GoodTruth, GoodTruths == a truth diagram has leaves 0 and 1 and labels in their range; each does
--   Allowed, Within, WithinTruths == no parameter from the c-th on; in no truth diagram
--
-- Definitions: the calls
--   truth_count, truth_words, truths_of == lent truth diagrams: words one after another, and where each begins
--   are_listings, leaf_above, any_occurs, unbound_variable == the parts of the checks 14, 7, 6; a variable that is no argument, or a minimum variable, is 6
--   check_truth, check_truths, regress_outcome == 7, then 6, diagram by diagram; the call: 14, 18, 7, 6, then its own
--   regressed_as, written_as, regress_answer, regress_result == the answer, and the result buffer then
--   freed_outcome, free_own, free_outcome == freeing, which leaves minimum variables: 8; 6, then 8; the call: 14, 18, 4, then these
--   freed_as, free_answer, free_result == the answer, and the result buffer then
--
-- Theorems
--   regressed-value: the regressed diagram's leaf in a state is the old one's leaf in the next state
--   regressed-tells: so for every regression that is accepted, and the result is a good diagram
--   regress-tells: so for the call on lent words
--   regressed-is: an accepted regression is regressed_diagram, of at most 1,024 rows
--   good-regressed: that diagram is good
--   eval-stepped: the row step chooses the true result where T is 1, the false one where it is 0
--   regressed-number: so the number after regression is the old one's in the next state (document 02, L12)
--   freed-number: the number after freeing is the highest, over all tuples, of the number before
--   free-is: what an accepted freeing is
--   combine-forms: every pair of a combination forms its reduced diagram, so the rows formed are the result's

-- definitions
pub mod Calls
pub mod Step
pub mod Regression
pub mod RegressCall
pub mod Result
pub mod Parameters
pub mod Tells
