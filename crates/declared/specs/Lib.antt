-- Every session that a text reaches names only what is declared, and its value diagram goes round through texts (document 02, L2).
--
-- Definitions: what is declared
--   Constant == a constant is one of the first c
--   DeclaredLabel, Declares == with c constants and p predicates declared, a label's predicate and constants are; every label of a diagram
--   DeclaredVariant, DeclaredAction == so a weight and its truth diagrams, the variants of an action
--   NameKey, NameKeys == the key of a name; keys of names, no two alike
--   DeclaredParts, DeclaredSession == keys, reward, actions and value diagram of a session are declared, from line to line
--   Named == the names that a session's keys stand for are what round_trip asks: `KeysOf`, `Declared`, and `Covers` of the value diagram
--
-- Definitions: the value diagram as another session's reward
--   value_line == the line (reward FORM) of a session's value diagram
--   SameNames, CanTake == a session in its model part without a reward, with the same constants and predicates in their order; and room for the rows
--   reward_with == the reward line made of a form, in bytes
--   ReadBack == what was printed is a form and a line feed, one line; the reward line made of the form is answered by nothing and leaves the very listing as the reward
--
-- Inner (Proper)
--   Proper, AllProper == labels under the arity list, with a predicate up to p and terms in P; Known, KnownArgument == the terms of a diagram of an action of k parameters
--
-- Theorems
--   closed-proper, combined-proper, cut-proper, reduced-proper: closing up, combinations, cuts and reductions name nothing new; regressed-proper, freed-proper: so
--     regression (with its truth diagrams) and freeing
--   backup-declared, cut-declared, reduced-declared: the calls on a value diagram of a good model
--   text-declares, reward-declares: what words come to names only declared things
--   declares-grown: what is declared stays so when more is; keys-more: one name more
--   reply-declared: every line keeps a session's parts declared (a new line of the run: held-declared, or answered-declared for a call's outcome)
--   text-declared: every session that any text leads to is Named
--   text-reads-back: whatever text led there, what a (text) prints is read as a reward, by a session that can take it, with the very listing it was printed from
--   text-again: so for texts: one that can take it, with the reward line behind it, leads to the very diagram as its reward
--   text-no-room: without room for its rows the reward line is 9
--   form-one-line: the form has no line feed inside

-- definitions
pub mod Declares
pub mod RewardAgain
pub mod Inner
-- inner
pub mod Proper
