-- The laws of the definitions in specs/, and what the proofs cite.
pub mod LineFeedLaws
pub mod ResolvedLaws
pub mod TextTreesLaws
pub mod TreeHeadLaws
pub mod TreeReadLaws
pub mod TreeReplyLaws
pub mod VariableLaws
