-- Bytes, names, numbers and keys of names (document 01, section 'Text').
--
-- Definitions
--   is_letter, is_digit, is_name_byte == a to z; 0 to 9; one of both
--   run == how many bytes of a kind the list begins with
--   decimal_from, decimal == the number that digits write, behind a number; alone
--   over, value_of == 10^18 + 1; the number that digits write, held at it
--   IsName == 1 to 15 lower-case letters or digits, a letter first
--   IsNumber == one digit at least, and no 0 before another
--   name_form, number_form == the name, the number that the bytes begin with
--   Key, little, key_of == a name as two numbers: its first eight bytes and the others, the first byte lowest
--   bytes_within, name_of == the bytes of a number; the name of a key
--
-- Theorems
--   name-sound: what the reader of names takes is a name; name-complete: and it takes every name whole
--   number-sound: so for numbers; number-complete
--   value-exact: value_of is the number, up to 10^18
--   name-key: no two names have the same key; name-of: the name of a name's key is that name

pub mod Bytes
pub mod ByteLaws
pub mod Words
pub mod Inner
pub mod WordLaws
pub mod Keys
pub mod KeyLaws
