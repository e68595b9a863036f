-- The diagram of a line of a text: what it is, and how operations build it (document 01, section 'Text').
--
-- Definitions: a diagram of a text
--   meaning == the leaf that a choice of true or false for all labels leads to in what is written
--   read_diagram == a number forms its leaf; (if ..) is the row step when it closes
--   held, text_diagram == the diagram of a line is one call, its result held to 1,024 rows (9)
--   reward_diagram == a reward is closed up when read
--   diagram_for == the diagram that the row steps give where none is refused
--   EachAsked, EachValue == a property of each label asked; no leaf is above 10^18
--
-- Definitions: the same by operations
--   most_tests, most_results == 64 brackets open together at most: how many tests and results wait
--   Machine == the tests and results that no step has taken yet, the latest first, and the rows formed
--   given, closing, operation, operations == one operation, and all
--   lone, ending, build == at the end one result is left, and no test
--   built, built_closed == the diagram of a line from its operations; of a reward
--
-- Theorems
--   built-text: the operations of a tree build what the tree is read as; built-reward
--   eval-for: a text's diagram has the meaning that is written
--   text-good: an accepted diagram of a text is good

-- definitions
pub mod Build
pub mod Written
pub mod Machine
-- laws
pub mod MachineLaws
pub mod ReadingLaws
