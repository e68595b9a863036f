-- Answers written into a lent buffer.
pub mod Wrote
pub mod Tables
pub mod Printing
