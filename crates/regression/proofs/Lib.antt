-- The laws of the definitions in specs/, and what the proofs cite.
pub mod CallLaws
pub mod FreeCallLaws
pub mod FreeingLaws
pub mod MovedLaws
pub mod RegressCallLaws
pub mod RegressionLaws
pub mod ResultLaws
pub mod StepLaws
pub mod TellsLaws
