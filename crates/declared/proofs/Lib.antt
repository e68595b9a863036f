-- The laws of the definitions in specs/, and what the proofs cite.
pub mod BackupLaws
pub mod ClosingLaws
pub mod GrowthLaws
pub mod LineLaws
pub mod NameLaws
pub mod ReadLaws
pub mod RegressLaws
pub mod RewardAgainLaws
pub mod TextLaws
