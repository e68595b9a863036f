-- Laws that the functions' proofs use.
pub mod SaysLaws
