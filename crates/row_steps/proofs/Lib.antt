pub mod JoinLaws
pub mod StepRunLaws
