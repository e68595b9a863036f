pub mod SharedLaws
pub mod CallLaws
