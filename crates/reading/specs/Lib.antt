-- The words pass of a line with a diagram (document 01, section 'Text', and the last paragraph under the refusals).
--
-- Definitions: what words stand for
--   Op == an operation: form a leaf, ask a test, make the row step
--   Environment, Binding == the names that stand for something on the line; which variables: any, none, or only the arguments
--   constant_number, parameter_number == a declared constant, or 2; a parameter of this action, or 6
--   met == the variables of one kind met so far, in the order of their first occurrence; one more than the limit is kept
--   Met, arguments == the variables met, kind by kind: ?name and %name; the arguments of a truth diagram, none for a weight
--   last_variable, number_in, variable_number == variables of a kind are numbered by first occurrence; an unknown one is 6 where none may be new
--   minimum_number == a minimum variable stands in a reward, or it is 6 (document 02, L12)
--
-- Definitions: the pass
--   Pass, more == the atom under way, how many terms are due, the operations so far
--   asked, beginning, begun, filling == an atom begins, its terms follow, and it is asked once none is due
--   term_word, number_word, atom_word == a term, or 1; a leaf, or 4; a declared predicate, or 2, with its arity, or 3
--   variable_met, minimum_met, met_at, word == one variable more of a kind; the variables after a word; a word judged
--   State, with-pass, read_word, read_words == how far the words are read
--   Written, is_within, written, begin, finished, reading == all words; then more variables of a kind than its limit are 8
--
-- Definitions: the variables of a reward by ascending N, kind by kind (document 02, L2 and L12)
--   Kind, minimum_of, variable_of, word_keys, keys_of, variable_keys, minimum_keys == the variables of a kind among the words, as often as they are written
--   occurring, occurring_met == each once, in the order of their first occurrence, however many
--   letter_v, takes == the byte v; all bytes of a word are taken
--   is_numbered, number_of, all_numbered == a name is v and N without leading zeros, nothing else; its N; every variable is so
--   inserted, by_number == sorted in by ascending N, each once
--   variables_first, met_first == the variables that have their number before the words: of each kind all, or none
--   reward_reading == the words of a reward
--
-- Definitions: the head of (becomes (p ?a ..) DIAGRAM)
--   opening_of, opened_number, head_number == its predicate, or 2
--   argument_of, pick_argument, Head, arguments_from, opened_arguments, head_arguments == its arguments: 3 for another count, 2 for a second
--   argument_keys, head_keys == the same on the line's tree: the keys of the arguments
--
-- Definitions: the same on trees
--   Reading == a diagram as it is written, each atom as what it asks
--   Result, having == what a part of the line stands for, with the variables met by its end; so for an outcome
--   resolve_term, resolve_terms, resolve_atom, resolve_diagram == every name resolved, in the order of the words
--   joined, testing, branching == a term before the others; the test of the terms; the branch of test and parts
--   ops_of == the operations of a diagram: test, part for true, part for false, step
--   diagram_reading == what a diagram's words come to
--   Reach, reach, maximum_reach, Named == how many variables of each kind may be named; the terms that may be: a minimum variable in a reward alone
--
-- Theorems
--   reading-diagram: the words of a diagram, read one after another, come to what its tree stands for
--   reading-sound: what is accepted names nothing unbound, has labels under the arity list and leaves in range
--   named-below: a weight or a truth diagram names no variable past its arguments, and no minimum variable
--   reading-many: with more variables of a kind than the limit, the words' first fault and 8 do not depend on how variables are numbered
--   met-kept: the variables kept are the first of all, one more than the limit
--   reading-counts: where any variable may stand, 8 is judged by all of each kind, though only one more than the limit is kept
--   numbered-number: a name that is written with its N is v and a whole number without leading zeros, nothing else

-- definitions
pub mod Operations
pub mod Reading
pub mod Head
pub mod Tree
pub mod Occurrences
pub mod Inner
pub mod Numbering
-- laws
pub mod OutcomeLaws
pub mod AllLaws
pub mod TreeLaws
pub mod GoodLaws
pub mod OccurrenceLaws
pub mod LineLaws
pub mod NumberingLaws
