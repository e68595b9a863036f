-- Backups on models in lent words, and what a run holds in words.
pub mod Backed
pub mod Parts
pub mod PartLaws
pub mod Run
pub mod Inner
pub mod Tasks
