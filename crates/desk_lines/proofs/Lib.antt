-- Laws that the functions' proofs use.
pub mod BestLaws
pub mod SpreadLaws
pub mod CountLaws
pub mod LineLaws
pub mod FindLaws
pub mod DidLaws
