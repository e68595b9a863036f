-- The laws of the definitions in specs/, and what the proofs cite.
pub mod ActionLaws
pub mod ArityLaws
pub mod BecomesLaws
pub mod DeclaringLaws
pub mod DrawnLaws
pub mod GrowthLaws
pub mod HeadLaws
pub mod PredicateLaws
pub mod ReadLaws
pub mod RewardLaws
pub mod RowLaws
pub mod SessionLaws
pub mod VariantLaws
pub mod WeightLaws
