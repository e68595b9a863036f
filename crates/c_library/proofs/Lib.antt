pub mod CallLaws
pub mod SessionLaws
