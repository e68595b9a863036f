mod PowerLaws
mod DigitLaws
mod RowLaws
mod ChoiceLaws
mod TableLaws
mod EntryLaws
mod StateLaws
