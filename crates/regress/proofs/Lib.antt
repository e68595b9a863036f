pub mod RowsLaws
pub mod TruthLaws
pub mod KeptLaws
pub mod AnswerLaws
