-- The laws of the definitions in specs/, and what the proofs cite.
pub mod HighestLaws
pub mod LentLaws
pub mod MaxLaws
pub mod NextLaws
pub mod ValueLaws
