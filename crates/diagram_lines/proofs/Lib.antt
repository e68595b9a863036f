-- Laws that the functions' proofs use.
pub mod RoomLaws
pub mod LineLaws
pub mod RewardLaws
pub mod VariantLaws
pub mod TruthLaws
pub mod BecomesLaws
