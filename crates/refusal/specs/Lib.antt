-- Refusals by trade word (document 01, section 'Refusals by trade word'; document 02, the new numbers of its requests).
--
-- Definitions
--   Refusal == a trade word (an enum of the code)
--   number_of == the number of a trade word: 1 to 18 of document 01, those above of document 02
--   Outcome, and_then == an answer, or why there is none; one step, then the next: the first refusal met is the answer
--   Accepted == if an answer is given, it has a property

pub mod Numbers
pub mod Outcome
-- laws
pub mod OutcomeLaws
