-- The calls that backups and sums of weights are made of: what their functions take and give.
pub mod Steps
-- laws
pub mod GivenLaws
pub mod FoldLaws
