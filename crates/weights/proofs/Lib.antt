-- Laws of the code.
pub mod SumLaws
pub mod ActionLaws
