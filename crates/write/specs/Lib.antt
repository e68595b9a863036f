-- Writing the listing of a row of the working space.
pub mod Numbering
pub mod Writing
pub mod Renaming
