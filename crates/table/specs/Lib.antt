-- The definitions that the contracts of `table` cite, and the laws of a bucket's chain.
pub mod Rows
pub mod Chains
pub mod ChainLaws
pub mod ChainedLaws
pub mod Table
