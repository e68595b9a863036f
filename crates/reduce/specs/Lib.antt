-- The public call of a reduction (document 02, L13). What a reduction is, and what the call answers, stands in crate reduction; what is left is formed by crate pruning.
--
-- Inner contracts: paths and edges
--   Won, Edged == a mark for each path; an edge that is asked about
--   winning, is_on_path, stays_in == the paths that are marked; an edge on one of them
--
-- Inner contracts: the search
--   stacked, sign_of == the ground literals known, the last first; what they tell of a fact
--   ways, formed_on, winners_on, better_of == the ways down a diagram; what is formed on them; which paths win
--   Searching, Standing, Searched == what the search requires and finds
--
-- Inner contracts: facts
--   fact_of, code_of, codes_of, choice_codes, clashing, is_clear == facts and ground literals as numbers; no fact is both true and false
--   digits == a valuation by its number
--   Tabling, Tabled == the facts of the rows' labels under every valuation
--
-- Inner contracts: the call
--   Winnable, Winning == the winning paths are found, and the combinations formed counted
--   Plain, Reducible, ReduceCallAnswered == what the parts of the call require, and what it promises
--
-- Theorems
--   opposed-clash: two ground literals are opposed exactly if their numbers clash
--   all-allowed, ways-over: the search allows exactly what is consistent, and its ways are the paths that are allowed
--   formed-is, winners-are: it forms what document 02 counts as formed, and finds the winning paths

pub mod Routing
pub mod Searching
pub mod Facts
pub mod Tables
pub mod Winning
-- laws
pub mod FactLaws
pub mod ClearLaws
pub mod FormedLaws
