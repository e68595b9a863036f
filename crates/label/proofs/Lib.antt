pub mod TermLaws
pub mod CodeLaws
pub mod ArityLaws
pub mod LabelLaws
pub mod OrderLaws
pub mod RenamingLaws
