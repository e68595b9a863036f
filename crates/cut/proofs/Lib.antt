pub mod WritingLaws
pub mod ChoosingLaws
pub mod ChoiceLaws
pub mod CallLaws
