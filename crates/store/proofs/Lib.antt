pub mod SpaceLaws
pub mod LoadLaws
