-- The laws of the definitions in specs/, and what the proofs cite.
pub mod BestLaws
pub mod LeadLaws
pub mod NumberLaws
pub mod OneLaws
pub mod RefusalLaws
pub mod Table
