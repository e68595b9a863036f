-- The reader of lines (document 01, section 'Text'). What it answers stands in text: LineForm line_kind, and Line IsLine.
--
-- Definitions
--   Keyword, row_of == a kind with its key and its shape

pub mod Rows
