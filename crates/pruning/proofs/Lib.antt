pub mod KeepingLaws
pub mod PruneLaws
