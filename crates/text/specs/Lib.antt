-- The lines of a text: trees, how they are written and read (document 01, section 'Text').
--
-- Definitions: trees
--   Kind, Shape == the kind of a line: a key word, or that the bytes are not the grammar; the shape of what stands behind it
--   most_line_bytes, most_open_brackets == 4,095 bytes, 64 brackets
--   form_of, kinds, keyword, shape_of == each kind's key word in bytes and its shape
--   is_never, is_bad == no line
--   Item, item_bytes, GoodItem, variable_bytes, parameter_bytes, word_bytes == a word of a sort, how it is written, being well formed
--   ShapeWords, shape_bytes, GoodShape, shape_brackets == what stands in a shape: names, numbers and diagrams; how it is written; names
--     are names, numbers numbers; how many brackets are open together
--   Words, words_bytes, GoodWords, open_brackets == the same by the kind of line
--   Line, kind_of_line, line_bytes == a kind and its words; how it is written
--   GoodLine == well formed, at most 4,095 bytes and 64 open brackets
--   IsLine == k is the answer for the bytes: the kind of the line that is written so, or Bad where there is none
--
-- Definitions: the reader
--   is_key, kind_in, kind_of == the kind that a key word begins, by its key
--   end_form, one_form, two_form, listed_form, paired_form, drawn_form, named_form, headed_form, shape_form == what stands behind a key word, by
--     its shape
--   words_form == by its kind
--   named, whole, form_kind, line_kind == a line's kind: its bracket, key word and words, and nothing behind them
--
-- Theorems
--   line-exact: the reader answers the kind of the line that is written so, and Bad exactly where there is none
--   line-unique: no two well-formed lines write the same bytes
--   line-complete: what a well-formed line writes is accepted; line-sound: what is accepted is written by one

pub mod Line
pub mod Inner
pub mod LineForm
pub mod KeywordLaws
pub mod ShapeLaws
pub mod LineLaws
pub mod LineUnique
