-- Variable elimination over lent words (document 02, L6), of listings without minimum variables (L12): what the code keeps, asks and promises. What is computed stands in crate elimination.
--
-- Definitions: sets and choices
--   names_from, names_of == the variables of a set, which is one word: bit i is variable first_variable + i
--   env_of == the objects of terms, a word for each
--   place_of, decoded == the place of a choice, its objects being digits in base n; the words with the choice that has a place
--
-- Definitions: what inner functions ask and promise
--   PlainLabel == a label without minimum variables
--   Decodable, Placeable, Labelled, Asked, Countable, Entering, Looking, Filling == what they ask
--   objects_of, lent_truth, tells == what a label says of the objects in env, by lent facts
--   One, Counted, cases_of, Moved == one variable's set; the cases of a label counted; only the variables of a set have other objects
--   set_at, start_at, Stored == a row's head: its table's names as a set, and where its entries begin; there is room for them
--   entry_in, look_in, best_in, Best == an entry, that of the child that a label leads to, the highest over the choices for a set
--   Above, Handing == the variables that rows leading to a row test, as sets
--   Said, Holds, union_of, Filled == words that say a state, that hold a table; a row's table written
--   Ready, Tabled, Branching, Branched, Working, RowWorked, Finished == the rows worked out so far, in words and for a state; a branch row, a row, all rows worked out
--   Shrinks, Shrunk, row_total, Tells, Rowing, Rowed == a row's entries counted
--
-- Theorems
--   place-decoded, place-one: each choice has one place, and each place one choice
--   of_or, of_and, of_xor, of_one: sets are lists of variables
--
-- The entry, which makes the arrays and reads the root's entry, is `by_tables` in valuing.

pub mod Masks
pub mod Calls
pub mod Above
pub mod Stores
pub mod Counts
pub mod Rows
-- laws
pub mod MaskLaws
pub mod PlaceLaws
