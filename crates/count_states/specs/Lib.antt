-- How many states of n objects have which value: the call (document 02, L11). What the spread is stands in spread.
--
-- Definitions
--   table_words == words of the table of lines
--   counted_as == how many lines, or the refusal
--   Countable, Counts == what the call asks; what it answers and leaves in the table
--
-- Definitions for the code's contracts
--   most_power, Power == the highest power that is formed
--   digits, first_facts == a tuple by its number; a predicate's facts by theirs
--   Declared, Fillable, Writable, Follow == what writing the rows of ground facts asks and gives
--   picked, Choosing, Chosen == the rows of a choice
--   line_words, value_at, states_at, entry_at, entries_at, put_entry == entries in words
--   once, more, enter == the entries after one more state
--   most_states, Enterable, Seeks, is_there, Shifted, Entered == what entering a value asks and gives
--   Valuing, Choices, value_of, large_at, rows_spread == what valuing the choices asks; a choice's value, by its rows; the spread by rows
--   Spreading == room for the lines

pub mod Counted
pub mod Facts
pub mod Table
pub mod States
