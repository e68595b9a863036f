-- The reply to a line by its tree, and the answers of a text by the trees of its lines (document 01, sections 'Text', 'Refusals by trade word' and 'A run, whole').
-- A reader of these believes how trees are written (text Line, forms Tree), that names are told apart by `key_of` (words KeyLaws `name-key` shows it), that numbers
-- above 10^18 are held at 10^18 + 1 (`value_of`), what an atom asks (`test_of`, `atom_from`), where a line may stand (`rule_of`, `allowed`), the row step (build
-- Build) and what an accepted line does (session), and no reader of bytes, no pass over words and no machine with stacks.
--
-- Definitions: a diagram's words
--   atom_terms, diagram_terms == its terms in the order of the words
--   with_one, variables_after == variables in the order of their first occurrence, kind by kind: ?name and %name
--   term_keys, first_variables, reward_variables == the variables among terms, as often as they are written; those of a reward, of each kind by ascending N where each is written so
--   numbered, term_number, term_numbers == a declared constant, or 2; a parameter or variable that is allowed here, or 6
--   atom_test == what an atom asks: a declared predicate, or 2, with its arity, or 3; then its terms
--   diagram_words, read_tree == a number in its range, or 4; atom, part for true, part for false; after all words more variables of a kind than the limit are 8
--
-- Definitions: one line
--   reward_tree == (reward DIAGRAM): words, row steps, closed up; last 9 for model rows
--   weight_tree == (variant n WEIGHT): 2 at its name; words, row steps; last 9 for variants and model rows
--   truth_tree == (becomes (p ?a ..) DIAGRAM): 2, 3 at p, 2 at a repeated argument; words, row steps, 7; last 9 for model rows
--   tree_done == what a line of each kind does and is answered, where it stands where it may
--   tree_reply == the reply to a line: 5, for (best) also 20, then its own checks
--
-- Definitions: lines in bytes, and texts
--   TreeAnswer == a blank line passes; what a well-formed tree writes is answered as the tree says; bytes that no tree writes are 1
--   TreeAnswers == how far a text is read after some lines, each answered so
--   TextTrees == the answers of a text: of its lines, of the bytes behind the last line feed, and the closing one
--
-- Theorems
--   reply-tree: the reply to what a well-formed line writes is what its tree says
--   reply-unwritten: the reply to bytes that no well-formed line writes is refusal 1
--   reply-answers: so every line in bytes has the reply of TreeAnswer; reply-only: and no other
--   text-trees: the answers of a text are those of TextTrees; trees-only: and no others are
--   line-whole, diagram-whole: what a well-formed line or diagram writes has no line feed inside: with one behind it, it is one line of a text

-- definitions
pub mod TreeReading
pub mod TreeReplies
pub mod TextTrees
