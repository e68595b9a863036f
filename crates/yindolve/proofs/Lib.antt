pub mod HandLaws
pub mod EndLaws
pub mod FinishLaws
