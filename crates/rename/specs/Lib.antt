-- Renaming: closing up, moving apart and freeing (document 01, sections 'Combination' and 'Regression'; kind by kind, document 02, L12).
--
-- Definitions
--   freed == parameter i turned into variable i, the other variables moved up by the parameter count; minimum variables stay
--
-- For proofs
--   Terms == every term of a diagram has a property
--   relabelled == the words of rows, each branch's label changed
--   KindsFit == the variables and the minimum variables of a diagram, numbered anew from two numbers on, stay each among their kind
--   Ascending, consecutive == lists of numbers that ascend; m, m + 1, .., m + n - 1
--   leaf_of == the leaf that an assignment of objects to terms leads to, whatever predicates hold
--   FreedFree == parameters that are freed are assigned freely, as variables are
--   Freeable == no parameter past the count occurs, and no variable would pass the last
--
-- Theorems
--   closed-good: closing up is always possible, and gives a good diagram of as many rows (closed-rows)
--   closed-variables, closed-minimums: its variables, and its minimum variables, follow one another from the first of their kind on
--   closed-twice: closing up twice is closing up once
--   after-good: so for moving apart, if both operands together have at most 64 variables and at most 64 minimum variables
--   apart-disjoint: operands apart have no variable of either kind in common
--   freed-good: freeing gives a good diagram, where it is possible (Freeable)
--   freed-free: freed parameters are chosen freely
--
-- Maps, Calls and Steps have inner contracts: maps of terms in words, and the loops that write them.

pub mod Relabelling
pub mod RelabelLaws
pub mod Ascending
pub mod AscendingLaws
pub mod TermLaws
pub mod VariableLaws
pub mod ClosingLaws
pub mod Valuations
pub mod ValuationLaws
pub mod Freeing
pub mod Inner
pub mod FreeingLaws
pub mod Maps
pub mod MapLaws
pub mod Calls
pub mod Steps
pub mod RenamedWords
