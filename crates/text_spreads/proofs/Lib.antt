-- The laws of the definitions in specs/, and what the proofs cite.
pub mod EntryLaws
pub mod LineLaws
pub mod RefusalLaws
pub mod SettledLaws
pub mod TextSpreadLaws
