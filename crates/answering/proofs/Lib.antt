pub mod WriteLaws
pub mod KeyLaws
pub mod ObjectLaws
pub mod LineLaws
pub mod TableLaws
