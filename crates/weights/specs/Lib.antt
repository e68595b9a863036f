-- The weights of a model in lent words.
pub mod Weighing
