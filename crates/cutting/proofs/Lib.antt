-- The laws of the definitions in specs/, and what the proofs cite.
pub mod CoverLaws
pub mod MatchLaws
pub mod MovedLaws
pub mod ReduceLaws
pub mod TruthLaws
