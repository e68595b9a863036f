-- The regression call: what its inner functions take and give.
pub mod Tasks
pub mod Keeping
pub mod Regressing
