-- The laws of the definitions in specs/, and what the proofs cite.
pub mod AboveLaws
pub mod AnswerLaws
pub mod CaseLaws
pub mod CountLaws
pub mod NameLaws
pub mod RootLaws
pub mod RowLaws
pub mod TableLaws
