-- The diagram as a form (document 02, L2 and L12): what (text) prints, and when it gives 19.
--
-- Definitions
--   Tables, tables_of == the names of constants and predicates in bytes, in the order of their declaration; from the keys that a session keeps
--   variable_name == the name of variable i of a kind: v and i in decimal
--   term_tree, atom_tree, form_tree == a term, a label, a diagram as a tree of forms; variables ?v0, ?v1 .., minimum variables %v0, %v1 ..; (= A B) with the smaller term
--     first, shared rows written out each time
--   form_bytes, reward_of == the bytes that (text) prints; the line (reward FORM)
--   term_length, terms_length, atom_length, form_length, open_brackets == bytes and brackets of a form, counted on the diagram
--   is_too_long == 19: the reward line would pass 4,095 bytes or 64 open brackets
--
-- Theorems
--   kinds, constant-tree, variable-tree, minimum-tree: a term as a tree, kind by kind
--   form-length, form-brackets, reward-length: the counts on the diagram are those of the bytes and of the tree; too_long: 19 is given exactly where the bytes or the
--     brackets of the reward line pass their limits

-- definitions
pub mod Form
