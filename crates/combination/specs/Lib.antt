-- The public calls of a combination.
pub mod Finishing
pub mod Sharing
