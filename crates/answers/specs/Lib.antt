-- The answers of a text as bytes (document 01, sections 'Text' and 'A run, whole').
--
-- Definitions
--   Answer == value, k, S^k; k, rows; row, edge, rows left; rows left; rows shown; the bytes of a form; action and objects; objects
--       and lines of a spread; moves done and the total of their rewards; refusal and line; or nothing (an enum of the code)
--   digits_within, digits == the decimal digits of a number
--   field, fields, name_field, edge_field, leaf_field == a number, numbers, a name, ` true` or ` false`, ` leaf`, a space before each
--   value_head, backup_head, cut_head, reduce_head, best_head, count_head, did_head, refused_head, row_head, line_feed, line_end == the words of answers, and the end of a line
--   answer_line == the line of an answer
--   row_line, row_line_at, row_lines == the line of a row; of row k of a listing; of the first n rows
--   count_line_at, count_lines == line k of a spread, the first n lines (document 02, L11)
--   answer_bytes == an answer's bytes, (show) with the rows of the value's listing, (text) with its form, (count n) with the lines of a spread
--   most_bytes == 92,160, the bytes of any answer at most
--   IsWord, IsByte, OfWords == a machine word, a byte; an answer of these, with at most 1,024 rows to show and as many lines of a spread
--   Plain == no form and no spread is to be printed
--   put_answer, put_result == the place behind bytes that are put at a place of a buffer, or that there is no room; the buffer then
--
-- Theorems
--   digits-read: the digits of a number read back as it
--   digits_number: and are a number as texts have it
--   answer-short, counts-short: an answer of machine words, of at most 1,024 rows or lines, has at most most_bytes bytes
--
-- The rest of Writing has inner contracts.

pub mod Digits
pub mod Answers
pub mod Writing
pub mod Inner
-- laws
pub mod DigitLaws
pub mod AnswerLaws
