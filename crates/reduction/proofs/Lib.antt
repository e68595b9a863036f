-- The laws of the definitions in specs/, and what the proofs cite.
pub mod CallLaws
pub mod ClosedLaws
pub mod CombinationLaws
pub mod KeepingLaws
pub mod KindLaws
pub mod ListLaws
pub mod ModelLaws
pub mod OrderLaws
pub mod ReductionLaws
