-- Laws that the functions' proofs use.
pub mod IndexLaws
pub mod StateLaws
pub mod FactLaws
pub mod TupleLaws
