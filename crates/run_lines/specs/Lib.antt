-- (start) and the lines of the run.
pub mod Lines
pub mod ReadyLaws
