-- The diagram that stands on a line: its words read, and built.
--
-- Definitions: what stands on a line
--   drawn, drawn_closed == its words read into operations, then built; a reward's closed up
--   DiagramAt, Drawable, Holds, Draws == what drawing a line in lent words requires and promises
--   Ending, built_to, known_to, drawn_to == the same by how a diagram ends: as it is, or closed up
--
-- Definitions: the machine in lent words
--   test_at, ops_from, whole_ops, Ops == the operations that words hold
--   tests_of, results_of, machine_of, Stacked == the stacks, by the places of the tests and the rows of the results, and the working space
--   Moves == what running one operation ensures, with room for so many pairs
--   Buildable, Labelled, Callable, Under, Roomy, RowWritable == what building and writing require
--   BuiltRow, Builds == what building in the working space ensures, with room for so many pairs
--   built_as, BuildAnswered == the answer, and the result buffer then
--
-- Theorems
--   draws-canonical: what the result buffer holds is the listing of the diagram, and no other's

-- definitions
pub mod Stacks
pub mod Writing
pub mod Drawing
pub mod Endings
-- laws
pub mod DrawingLaws
