-- A model in lent words while its lines are read.
pub mod Building
pub mod Starts
pub mod Inner
pub mod Adding
pub mod StartLaws
pub mod WordLaws
pub mod BuildingLaws
pub mod NameLaws
