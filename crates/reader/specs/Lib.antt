-- Reading the words of a line with a diagram from lent bytes, into lent words (what they come to: crate reading).
--
-- Definitions
--   op_of, op_at, ops_in == operations in lent words, two to each
--
-- Theorems
--   read-diagram: the operations that are read of a diagram's words are those of a good diagram, with values and labels in their range
--   kept-reading: variables gathered by ascending N, one more than the limit of each kind kept, come to the words of a reward
--
-- Callers and Gathering have inner contracts.

-- definitions
pub mod OperationWords
pub mod Callers
pub mod Gathering
-- laws
pub mod OperationLaws
pub mod SplitLaws
pub mod ReadLaws
pub mod GatheringLaws
