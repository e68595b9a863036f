-- Laws of the code.
pub mod PlaceLaws
pub mod OpenLaws
pub mod KindLaws
pub mod AnswerLaws
pub mod KeptLaws
pub mod ReplyLaws
