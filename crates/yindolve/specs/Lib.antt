-- The program.
--
-- Definitions
--   Refills == bytes are read behind those in hand, where there is no whole line among them
--   InHand == what was written, and what is held, is what text_answers says of the bytes read: of a text of as many bytes as were read, and of as many
--       answers as were written
--   Finishes == the answer at the end of the input is written, and nowhere else
--   Ends == a run: read to its end with as many bytes written as all answers of such a text have; or stopped at a read or a write that failed
pub mod Program
