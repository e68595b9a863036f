-- Lines of a text, answered.
pub mod Kinds
pub mod Lines
pub mod Placing
