-- What the functions exported to C answer (document 01, section 'Refusals by trade word': "each answers its number").
pub mod Answers
pub mod Calls
pub mod Sessions
pub mod Inner
-- theorems
pub mod AlikeLaws
pub mod OnlyLaws
