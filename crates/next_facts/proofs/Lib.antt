pub mod RowLaws
pub mod StartLaws
pub mod MarkLaws
pub mod PutLaws
pub mod KeepLaws
pub mod FillLaws
pub mod CallLaws
