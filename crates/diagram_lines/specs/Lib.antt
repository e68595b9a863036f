-- The lines with a diagram, in lent words.
pub mod Lines
pub mod ReadyLaws
