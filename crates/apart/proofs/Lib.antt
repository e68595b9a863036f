pub mod ClosingLaws
pub mod ResultLaws
pub mod StandingLaws
pub mod JoinLaws
pub mod ApartLaws
