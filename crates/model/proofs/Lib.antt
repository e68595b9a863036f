-- Laws of the code.
pub mod CheckLaws
