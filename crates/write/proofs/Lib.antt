pub mod NumberLaws
pub mod WriteLaws
pub mod ResultLaws
pub mod RenameLaws
