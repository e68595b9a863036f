-- The laws of the definitions in specs/, and what the proofs cite.
pub mod CombineLaws
pub mod FreeLaws
pub mod OnlyLaws
pub mod RegressLaws
pub mod TextLaws
pub mod ThroughLaws
pub mod WrittenLaws
