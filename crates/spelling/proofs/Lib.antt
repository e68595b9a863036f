pub mod NameLaws
pub mod TestLaws
pub mod RowLaws
pub mod CountLaws
