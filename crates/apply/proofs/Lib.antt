-- The laws of the definitions in specs/, and what the proofs cite.
pub mod Canon
pub mod CombinationLaws
pub mod FormedLaws
pub mod GoodLaws
pub mod OverflowLaws
pub mod PairLaws
pub mod RowLaws
pub mod VisitLaws
pub mod ZeroLaws
pub mod Course
