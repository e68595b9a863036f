-- Whether numbers and words are a session's, as every line keeps them: a test that computes. What opening or any line leaves passes; words that pass need not
-- have come from lines, and then (value) is the value of the diagram in hand and not Mk, and (text) and (best) print the bytes that the keys hold, be they names or not;
-- (best)'s move is then that of the diagram in hand, and (did ..) goes on from the count and total that they hold. Of their facts 9 counts every row: one that stands twice, or
-- of equality or a predicate past 31, which are gone behind (did ..), and one of a predicate that is not declared, which it keeps and 22 counts too. A count above 0 may stand
-- beside no objects, or a constant that is not placed. (count n) judges all 16 words of constants, those too that are not declared. The index of the facts is no
-- part of the test: it may be anything.
--
-- Definitions
--   rooms_fit == every table has its room
--   counts_fit, arities_fit, head_fits, reward_fits == names and arities; the model's numbers; its reward
--   last_named, last_fits, model_fits == its last action is that of the names; so are all actions and variants; all of the model
--   log_fits, state_fits, run_fits, part_fits == count and total; the state; the value diagram, k and S^k; what the part of the text asks
--   is_session == all of it
--
-- Theorem, in KeptLaws
--   session-is == the test is true exactly if the words are a session's (`IsSession`), so that what opening or any line leaves is accepted again
--
-- PartLaws: each part of the test.
--
-- Definitions: the words in use
--   count_at, listing_at == how many words a listing of the model has, and which
--   SameWords == numbers and tables agree in every word in use
--
-- Theorem, in SameLaws
--   same-words == numbers and words that are a session, are the same session and have the model's listings at the same places are the same in every word in use

pub mod Restoring
pub mod Words
-- laws
pub mod PartLaws
pub mod KeptLaws
pub mod SameLaws
