-- The laws of the definitions in specs/, and what the proofs cite.
pub mod ApartLaws
pub mod ClosingLaws
pub mod FreedLaws
pub mod MinLaws
pub mod NextLaws
pub mod NumberLaws
pub mod OccurLaws
pub mod PlainLaws
pub mod ReachLaws
pub mod RenamedLaws
pub mod Table
