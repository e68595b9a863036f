-- Laws of the code.
pub mod BackupLaws
pub mod CutLaws
pub mod HoldLaws
pub mod ReduceLaws
pub mod ShowLaws
pub mod TextLaws
pub mod StartLaws
pub mod ValueLaws
