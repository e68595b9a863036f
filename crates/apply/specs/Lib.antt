-- Combination: two diagrams combined leaf by leaf (document 01, section 'Combination'; document 02, L4 and L12).
--
-- Definitions: the result
--   Operation, operate == sum, product, max; the operation on two leaves
--   Names == whether names are apart or shared
--   node == the reduced branch: no branch has two equal children
--   apply == the reduced diagram of a pair of diagrams: both go down by the lower of their labels
--   left_operand, right_operand == apart: the first closed up, the second's variables behind; shared: as they are
--   finished, combination == results are closed up only when apart; the result
--
-- Definitions: what is counted
--   Pair, same_pair == two diagrams; equal pairs
--   absorbs, ends == in a product leaf 0 gives 0 with every value; a pair without successors: two leaves, or one that absorbs (document 02, L4)
--   descend, successor == an operand goes down if its label is the lower one or equal; the pair that follows by true, by false
--   ClosedPairs, LeastPairs == a set with the successors of each pair that does not end; the least such set that holds the roots
--   pairs, pair_count == the pairs from the roots on; how many they are, each once
--   too_high, overflows == the operation on two leaves is above 10^18; on some pair of leaves
--   add, formed == one row more unless it is there; the rows that the pairs form, behind rows that are there
--   operand_rows, rows_formed == an apart call forms the renamed operands' rows; how many rows a call forms
--   too_many == more than 64 variables of a kind, both operands' together when apart
--
-- Definitions: the call
--   Combined == rows and pairs, or the refusal
--   diagram_answer == the operation's own checks in order: 8, 10, 11, 9
--   done_as == with which names a call is done: a max asked for with shared names is done apart if either side has a minimum variable
--   combine_answer == the call on lent listings: 14 by operand, 18, then the operation's own, done as done_as says
--   written, combine_result == the result buffer then: words behind a result stay, and a refused call changes none
--
-- Definitions: before request L4, when only two leaves ended a pair
--   all_pairs, all_count == the pairs, and how many they are: those of a sum
--   answer_before, recounted == the operation's own checks by these pairs; an answer with another count of pairs
--
-- Theorems
--   eval_apply: the leaf of the result is the operation on the operands' leaves, for every choice
--   apply-unique: the result is the only ordered reduced diagram with that meaning
--   good_apply: it is a good diagram if no pair is too high and its rows are at most 1,024
--   pairs-least: the pairs are the least set that holds both roots and the successors of each pair that does not end
--   visit-count: the walk that finishes each pair once finishes pair_count pairs
--   formed-rows: the rows that the pairs form are those of the result
--   formed-count: behind rows that are there, the pairs form as many as the result has that are not there yet
--   accepted-done: what no check refuses is answered with its rows and pairs; done-accepted is the converse
--   zero-kept: a pair that L4 leaves out forms leaf 0, as a pair that is there does
--   zero-count: so there are no more pairs than before; zero-overflows: 11 has the same condition; zero-rows: and 9
--   answer-kept: a call met 10 before, or its answer is what it was but for the count of pairs
--
-- Visit, Walk and Course are for proofs: the walk in its order, the views over which laws recurse.

-- definitions
pub mod Apply
pub mod Pairs
pub mod Visit
pub mod Formed
pub mod Combination
pub mod Before
pub mod Inner
-- laws
pub mod Walk
pub mod ApplyLaws
