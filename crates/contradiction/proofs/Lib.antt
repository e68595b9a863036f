-- The laws of the definitions in specs/, and what the proofs cite.
pub mod AgreeLaws
pub mod ContradictionLaws
pub mod ExactLaws
pub mod Examples
pub mod JoinLaws
pub mod StateLaws
