-- The laws of the definitions in specs/, and what the proofs cite.
pub mod BackupLaws
pub mod CallLaws
pub mod CutLaws
pub mod ExampleLaws
pub mod RunLaws
pub mod StepLaws
pub mod Table
pub mod ValuedLaws
