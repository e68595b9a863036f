-- Laws that the functions' proofs use.
pub mod TableLaws
pub mod ParameterLaws
