-- Laws of the code.
pub mod ActionLaws
pub mod DigitLaws
pub mod FoldLaws
pub mod LeadLaws
