-- Variable elimination: values by tables over the rows of a listing (document 02, L6; source document 003).
--
-- Definitions: tables
--   Table == names of variables, ascending; for which choices of objects for them it has an entry; each entry's value
--   sum_to, count_choices == f 0 + .. + f (n - 1); for how many choices of objects for a list of variables a test holds
--   entries == how many entries a table has
--   leaf_table == a leaf's table: no names, one entry
--   is_case, join == a truth is the case b; the cases b of an atom joined with a child's table
--   unite == the union of two tables, missing names filled in
--   without, aggregate == a list without v; a table without the name v, with the highest value
--   aggregate_all, aggregate_entries == one variable after the other; the entries of the tables on the way
--
-- Definitions: rows
--   label_variables == the variables of a label, each once, ascending
--   has_edge == row j has an edge to row i
--   tested_within, tested_above == a row that leads to row i tests v: by at most m edges; by any number
--   untested == those of some names that no row leading to row i tests
--   row_join, row_union, row_drops, row_table == a row's two joins, their union, what is aggregated, and what is left
--   tables, root_table == the tables of the first k rows, in listing order; the last row's
--   row_entries, entries_to, all_entries == the entries that a row counts; the first k rows; all rows
--   most_entries == 8,192
--
-- Definitions: the call
--   is_too_large == valuations pass 1,000,000, and there is a minimum variable (L12) or entries pass 8,192
--   answer_by, first_answer == the value call: its checks in order (14, 4, 6), then 15 where it is too large, else the number; by the first way of working alone
--   value_answer == the same with the second way of working, where there is no minimum variable
--
-- Theorems
--   root-value: in every state the value of the root's table is the highest leaf; it has no names (root-names) and one entry (root-entries)
--   lent-value: so for lent words, which are what the call has, and without minimum variables it is their number; lent-names, lent-entries
--   row-table: a row's table gives for each choice of the variables that rows leading to it test the highest leaf over all choices of the others
--   valued_same: the answer is as before wherever it was no 15; valued-tables, valued-refused, valued-minimum: where it was 15
--   full-entries, join-entries, aggregate-entries: how many entries a full table, a join and an aggregation have
--   cases-split: the true and the false cases of a label are all choices for its variables; aggregate-sum: the entries of a row's aggregations
--   entries-grow: the count grows row by row
--   tested-own, tested-on, tested-from: what is tested above a row is what the rows with an edge to it test, and what is tested above those
--
-- Inner is for proofs and inner contracts: what a table sees (Sees, Agree), its names (Named), a full table (Full), the entries of aggregations (geometric).

pub mod Tables
pub mod Elimination
pub mod Answer
-- for proofs and inner contracts
pub mod Inner
