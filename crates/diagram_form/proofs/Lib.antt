-- The laws of the definitions in specs/, and what the proofs cite.
pub mod FormLaws
