-- A session's names in lent words.
pub mod Tables
pub mod Inner
