-- Laws for the functions' proofs.
pub mod TestLaws
pub mod PowerLaws
