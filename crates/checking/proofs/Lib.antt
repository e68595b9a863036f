-- Laws for the functions' proofs.
pub mod TestLaws
