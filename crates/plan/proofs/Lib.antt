pub mod StepLaws
pub mod VisitLaws
