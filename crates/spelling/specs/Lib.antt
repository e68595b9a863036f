-- A listing as one nested form (document 02, L2): its bytes measured, and written into a lent buffer.
--
-- Definitions
--   tables_at == the names that a session's words hold: so many constants, so many declared predicates
--   Named == the words have room for them, and they are within their limits
--   measured == the bytes of a diagram's form, or 19
--   form_line == what (text) prints: the form and a line feed
--
-- Theorems
--   measured-bytes: what was measured is the form's length, and 19 is not given; measured-long: where it was too long, 19 is given
--   line-short: the line that (text) prints has at most 4,087 bytes
--
-- Parts has inner contracts.

pub mod Spelling
pub mod Parts
-- laws
pub mod SpellingLaws
