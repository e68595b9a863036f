-- Terms, atoms and diagrams: trees, how they are written, and how they are read (document 01, section 'Text').
--
-- Definitions: trees
--   Mark, Term == ?name is a variable, !name a parameter, %name a minimum variable, a name alone a constant
--   Atom == (name TERM ..) or (= TERM TERM)
--   Diagram == a number, or (if ATOM DIAGRAM DIAGRAM)
--   many_bytes, mark_bytes, term_bytes, atom_bytes, diagram_bytes == how they are written, one space between words
--   All, GoodTerm, GoodAtom, GoodDiagram == their names are names and their numbers numbers
--   brackets == how many brackets are open together
--
-- Definitions: readers, each answering how many bytes it takes
--   ◌▹◌, byte, form == one form, then the next from where it ended; a byte; a form at a place
--   Sort, item_form, term_form, marked_form, is_mark == one word of a sort: name, ?name, !name, a term (any of these or %name), number
--   many_form, plain_form, equality_form, inner_form, atom_form == words with a space before each; the insides of an atom; an atom
--   head_form, if_form, diagram_form == if ATOM; an if form; a number or an if form, of at most 64 open brackets
--
-- Theorems
--   diagram-sound: what the reader accepts is written by a well-formed tree
--   diagram-complete: what a well-formed tree writes is accepted, whole
--   diagram-unique: no two well-formed trees write the same bytes

pub mod Tree
pub mod Form
pub mod FormLaws
pub mod Sound
pub mod Complete
pub mod Unique
