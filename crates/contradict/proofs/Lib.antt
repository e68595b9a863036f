-- Laws of the code.
pub mod TableLaws
pub mod LiteralLaws
pub mod PathLaws
