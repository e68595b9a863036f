-- An index of facts: how a fact is found among lent rows. Of these only how many buckets there are has to be believed (Index); which facts there are is said in crate state.
pub mod Index
pub mod Inner
-- laws
pub mod IndexLaws
pub mod SearchLaws
