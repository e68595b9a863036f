-- Laws that the functions' proofs use.
pub mod CountLaws
pub mod StartLaws
pub mod AddLaws
pub mod VariantLaws
pub mod TruthLaws
