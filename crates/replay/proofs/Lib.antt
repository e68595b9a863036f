-- The laws of the definitions in specs/, and what the proofs cite.
pub mod AlikeLaws
pub mod FactLaws
pub mod LargeLaws
pub mod ReplayLaws
