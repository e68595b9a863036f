-- Lines that declare names and numbers.
pub mod Lines
pub mod LineLaws
