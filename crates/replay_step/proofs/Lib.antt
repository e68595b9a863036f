-- Laws of the code.
pub mod RewardLaws
pub mod StepLaws
pub mod WeightLaws
