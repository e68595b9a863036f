-- The paths of a diagram (document 01, section 'Cut').
--
-- Definitions
--   most_paths == 256: over it, those to leaf 0 included, is 17
--   Literal, Step, Path == a label and whether it is taken as true; an edge on a path; the edges and the leaf
--   step_before, paths == one edge more in front; the paths of a diagram, true branch first
--   literal_of, literals, terms_in == the literals of a path, and their terms
--   is_edge, some_step, through == the path goes through the edge of the row r on the side b
--
-- For proofs
--   step_on, path_at, codes == an edge of a branch; path k of a diagram; its literals as numbers
--   literal_at, literals_in == the literal that a number stands for; those of numbers
--
-- Theorems
--   paths-are: the paths are those of the numbers 0, 1, ..
--   rows-paths: a diagram has fewer rows than twice its paths
--
-- Inner and Walking have inner contracts.

pub mod Paths
pub mod Routes
pub mod Inner
-- what the code's parts keep
pub mod Walking
-- laws
pub mod PathLaws
pub mod CodeLaws
