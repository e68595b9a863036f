-- Diagrams and listings (document 01, section 'Terms, labels, listings').
--
-- Definitions: numbers
--   most_rows, highest_value == a listing has at most 1,024 rows, a leaf at most 10^18
--   space_rows, most_pairs == a call forms at most 2,048 rows, a combination walks at most 4,096 pairs
--   result_words, space_words == a result buffer has at least 3,072 words, a working space 6,144
--
-- Definitions: diagrams
--   Tree, Diagram == a leaf with its value, or a branch: label, part under true, part under false; labels are packed numbers
--   eval == a diagram's meaning: the leaf that a choice of true or false for all labels leads to
--   Alike == the same meaning, for every choice
--   same == whether two diagrams are equal
--   From, Ordered == a child's label is greater than its parent's; From n: and every label is at least n
--   Reduced == no branch has two equal children
--   relabel == the labels changed by a function
--   EveryLabel == a property of every label of a diagram
--   onto, rows == the distinct parts of a diagram in the order in which a walk, true branch first, finishes them; behind rows that are there
--   row_tree == the diagram of row k
--
-- Definitions: listings
--   label_at, high_at, low_at == the three words of row i: label, true row, false row; of a leaf its mark, its value, 0
--   row_count == the words by three
--   is_leaf_row, is_branch_row == row i is a leaf, is a branch whose label is below its children's, which differ
--   every_below == p holds of every number below n
--   equal_rows, are_distinct == two rows are equal; no two are
--   finish, up_to, equal_lists, are_numbered == rows are numbered as a walk from the root finishes them, none unreachable
--   is_listing == the words are a listing under the arity list
--   index, encode, listing == a row's number among rows; the words of rows; the listing of a diagram
--   tree_at, diagram_of == the diagram of row i; of the last row, the root
--   old_mark == what a leaf's first word was before document 02, L8
--   Fine, Good == labels and values are in their ranges; and the diagram is ordered, reduced, of at most 1,024 rows
--
-- Definitions: variables
--   occurs == a term stands in a label of the diagram
--   occurring, variables, minimums == those of n terms that occur; the variables, the minimum variables, ascending
--   is_plain == a diagram without minimum variables
--   closed_from, closed == the used variables renamed to m, m + 1, .., the minimum variables to n, n + 1, ..; from the first of each kind on: closing up
--   after == the second operand's variables follow after the first's, kind by kind: apart
--
-- Theorems
--   canonicity: two ordered reduced diagrams with one meaning are equal
--   is-one-listing: two listings with one meaning are the same words
--   is-listing-diagram: a listing is the listing of its diagram, which is good (is-listing-good)
--   good-is-listing: the listing of a good diagram is a listing
--   diagram-listing: the diagram of the listing of a good diagram is the diagram
--   old-none: words with a row of the packing before document 02's L8 are no listing (OldListings)
--   valid-is-listing: words that are valid row by row (Validity, for proofs) are a listing; listing-is-valid is the converse
--
-- Inner, Shown and WrittenRows are for proofs: rows that grow at the end, and words that hold them.

pub mod Sizes
pub mod Diagram
pub mod Rows
pub mod Words
pub mod Listing
pub mod Variables
pub mod DiagramLaws
pub mod Canonicity
pub mod Validity
pub mod RowLists
pub mod Inner
pub mod WordLaws
pub mod ListingLaws
pub mod RowLaws
pub mod Shown
pub mod WrittenRows
pub mod RowDiagrams
pub mod DiagramOfListing
pub mod ListingValid
pub mod ListingOfDiagram
pub mod Listings
pub mod OldListings
