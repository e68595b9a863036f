-- A diagram's number with minimum variables (document 02, L12): what backups, values and the demands speak of. Where no label has one it is the highest leaf of
-- crate state (fine-plain, number-plain).
--
-- Definitions: the number
--   IsMin, min_to == x is the lowest of f on P: attained, and nothing below; the lowest over the numbers below n
--   IsMaxMin == x is the highest, over choices, of the lowest over the answers to a choice
--   Under == a valuation that differs from θ at minimum variables only
--   Lowest, Number == the lowest leaf over the minimum variables; the highest of these over the maximum ones
--   HighestLowest == the same in the request's words: the highest of the lowest leaves that valuations have
--   min_vals == the lowest over all choices for a list of variables
--   below, from, maximums, minimums == the numbers of a list below m, and the others; the used variables of each kind
--   number == the number, computed
--
-- Definitions: what is done to diagrams
--   Plain, Fixed == no minimum variable; no variable
--   Disjoint == no variable of either kind in common
--   Rises == an operation that rises in both operands
--   SameKind, KindByKind == variables of one kind; a renaming of variables kind by kind, no two to one
--   closed_kinds, after_kinds == closing up, and the second operand moved aside, kind by kind
--   Room == c more maximum variables have a number each
--
-- For proofs
--   Met == choices that do as well
--   Reach, Covered == choices for a list of variables; lists that have the variables of a diagram
--   Joins, Parts, Told == operands whose valuations are chosen freely; a test that tells their variables apart
--   split == maximum variables by one valuation, minimum variables by another
--
-- Theorems
--   number_is: the number computed is the number; number-one: there is one; number-equal: so each number is the computed one; number-attained: it is a leaf
--   number-reads, reads-number: it is the highest, over the maximum variables, of the lowest leaf over the minimum ones
--   number-plain: without minimum variables it is the highest leaf; highest-number and number-highest, of the relations
--   fine-plain: a diagram that is plain by its labels (diagram Variables, is_plain) has none; occur-terms, terms-occur: the terms of what it says are those of its labels
--   number-of-sum, number-of-max: of operands apart, the sum and the higher of their numbers (number-apart: for each operation that rises)
--   number-of-product: times a diagram without variables, the product; number-fixed: whose number is its leaf; number-scale: times a number
--   number-max-shared: names may be shared in a max where there is no minimum variable
--   number-renamed: variables renamed kind by kind, no two to one, leave the number
--   number-closed: so closing up does; number-combined: sum, product and max done apart give the sum, product and max of the numbers
--   number-of-freed: freeing takes the highest over all tuples of objects of the number with the tuple for the parameters
--   number-next: what regression asks: a diagram without parameters, read in a state of the same objects
--   number_by, number_same: numbers compared by valuations; of equal leaves
--   table-number: one van that serves all shelves, by computation; table-names: names kind by kind

-- definitions
pub mod Min
pub mod Number
pub mod Operations
pub mod Inner
