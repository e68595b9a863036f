-- What is left of a listing once edges go to leaf 0, formed row by row, written and closed up: cuts and reductions share it.
pub mod Pruning
pub mod Keeping
pub mod PruningLaws
