-- The laws of the definitions in specs/, and what the proofs cite.
pub mod ChoiceLaws
pub mod GroundLaws
pub mod LeafLaws
pub mod LentChoiceLaws
pub mod SpreadLaws
pub mod Table
