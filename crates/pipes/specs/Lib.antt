-- Standard input and output, counted.
--
-- Definitions
--   Flow == whether input and output go on, or why not (an enum of the code)
--   Tally == bytes read and written, those of the last read, and the flow (a struct of the code, whose fields are its own)
--   started, counted, stopped, written == before anything is read; so many bytes read; nothing moved and an end; so many bytes written
--   Reads == a read: bytes behind the first ones of a block, or an end with a reason
--   Writes == a write: all bytes, or an end
pub mod Tally
