pub mod FillCode
pub mod PassCode
pub mod TermCode
pub mod PartCode
pub mod WordCode
pub mod HeadCode
pub mod NumberCode
pub mod GatherCode
