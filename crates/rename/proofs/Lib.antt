pub mod MapSteps
pub mod RowSteps
