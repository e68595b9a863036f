-- A state in lent words.
pub mod Words
pub mod Inner
pub mod Noting
-- laws
pub mod PartLaws
pub mod WordLaws
