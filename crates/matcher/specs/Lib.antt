-- Whether one path covers another, as the code finds it: what its parts keep.
pub mod Covering
pub mod Search
pub mod Failure
pub mod Stored
pub mod Parts
