-- States and the value of a diagram in one (document 01, section 'States and value').
--
-- Definitions: states
--   Atomic, atom_of, meaning == a predicate and its terms; what a label says; a diagram over what its labels say
--   State == how many objects, an object for each constant, and which facts are true
--   Good == there is an object, and the constants are objects
--   equated, truth == two objects are one; whether a predicate holds of objects, predicate 0 being equality
--   holds, value == the truth of an atomic formula, the leaf of a diagram, where each term has the object that θ gives it
--   low, fixed == x below m and y from m on; a term that is no variable: constants by the state, parameters by a tuple
--   Fits == a valuation: θ gives every term an object of the state, what is no variable as placed
--   Each, args, Terms == a property of every term of a list, of an atomic formula, of a diagram
--   rename_atom, rename == each term replaced by what ρ gives it
--   inner, fact_after, next == the next state: p(o ..) is true next exactly if its truth diagram gives 1 for o .. today; without one it stays
--
-- Definitions: the highest leaf
--   IsMax, Highest == x is the highest of f on P: attained, and nothing above; the highest leaf over all valuations
--   max_to, max_tuples == the highest over the numbers below n; over all tuples of c objects
--   gather, those == lists one behind the other; the members that pass a test
--   Tuple, tuples == c objects below n; all of them, lowest objects first, the first changing slowest
--   max_of, sum_of == the highest over a list; the sum
--   insert, vars_of, vars_in, vars == the used variables, ascending
--   put, start, max_vals == θ with another object for v; object 0 for each variable; the highest over all choices for a list of variables
--   highest == the highest leaf, computed
--   Bound == each object of a tuple is one of the state
--
-- Definitions: the call
--   fact_words, fact_count, predicate_at, objects_at == a fact is a row of words: its predicate, and an object for each place
--   fact_row == the row of a fact, 0 in unused places
--   most_objects, most_facts == at most 64 objects, and 1,024 facts
--   says_fact, some_below, said_by == row i says that p holds of objects; some row does
--   state_of == the state that lent words are
--   all_below, names_below, constants_below, is_state == there is an object, and no object that the lent words name is n or beyond
--   most_valuations, parameters, valuations == 1,000,000; the parameters of a diagram; n to the number of its variables
--
-- Theorems
--   highest-is: the highest leaf computed is the highest leaf
--   rename-value: a renamed diagram is valued through the renaming
--   highest-by: highest leaves compared; highest-same: of diagrams with the same leaves; highest-one: there is one
--   highest-max: of two diagrams' highest
--   same-facts: neither order nor repetition of lent facts matters

pub mod Max
pub mod State
pub mod Terms
pub mod Next
pub mod Highest
pub mod Inner
pub mod Lent
pub mod ValueCall
