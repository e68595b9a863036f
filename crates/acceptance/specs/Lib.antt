-- A form read again as a reward is accepted (document 02, L2): building it never meets 10, 11 or 9.
--
-- Definitions
--   ReadAgain == the round trip, and the reward that is built from the words is the very diagram
--   three_digits, low_leaves, high_leaves == leaves below 100; a diagram's others, as often as they are written
--   other_test, step_rows, branch_rows == 1 - T; the five rows of a row step; those of all tests of the form
--   formed_rows == every row that reading the form may form
--
-- Theorems
--   form-few: a form whose line is within 4,095 bytes has at most 2,048 such rows: a test takes ten bytes at least and forms five, a leaf of 100 and more takes three
--     bytes and forms one, and leaves below 100 are few
--   holds-formed: the rows of each row step, and the leaves, are among them
--   test-pairs, sum-pairs: the three combinations of a row step have few pairs
--   test-times, other-times, sum_is: what a row step of a written test forms
--   fits-form, fits-combine: a step whose rows are among those meets no 9
--   form-accepted: the words of a value diagram's form, where 19 is not given, build the very diagram
--   reward-accepted: so the round trip with its reward built; not-refused: no number is met; value-accepted: so for a session's value diagram after (start)

-- definitions
pub mod FormedRows
pub mod ReadAgain
