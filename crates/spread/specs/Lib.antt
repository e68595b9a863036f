-- The spread: how many states of n objects have which value (document 02, L11). Its line stands in session, its code in count_states.
--
-- Definitions: states
--   most_ground == at most 16 ground facts, above it 24
--   Ground, same_ground == a predicate and its objects; whether two are equal
--   joined == lists one behind the other
--   facts_of, ground_facts, ground_count == the ground facts of a predicate, of all declared ones; how many
--   is_ground == a declared predicate with as many objects as it has places, all below n
--   bits, number_of == choice c of g facts, lowest bit first; the number of a choice
--   chosen, row_of, rows_of == the facts chosen true; their rows, as (true ..) makes them
--   lent_choice, choice_state == the facts of choice c as they are lent; its state
--
-- Definitions: values
--   Entry, entry_words == a value, and how many states have it; a list of them as words
--   values, count_of, entries == the values that occur, lowest first; how many have one; both together
--   value_in == the value in the state of choice c
--   entries_of, some_too_large, spread == the entries of all states; a state meets 15; 24 before any state, then 15, then the entries
--
-- Theorems
--   length-ground, mem-ground, ground-nodup: the ground facts are as many as counted, are those that they should be, and none is repeated
--   state-ground, state-other: ground fact i is true exactly if bit i is 1, and nothing else is true
--   choice-below, choice-made, choice-one: every choice of true or false for the ground facts is that of exactly one number below 2^g
--   lent-choice, choice-good: the lent words of a choice are a state
--   entries-values, values-ascend, values-occur: the lines' values ascend strictly and are those that occur; count-some: each has a state
--   entries-sum, states-sum: the numbers add up, to 2^g
--   number-leaf, lines-few: a value is a leaf of the diagram, and there are at most 1,023 lines
--   spread-many, spread-large, spread_lines: the answer by its cases
--   table-spread, table-ground, table-many: small cases, by computation

-- definitions
pub mod Ground
pub mod Inner
pub mod Spread
