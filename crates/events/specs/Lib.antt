-- The words of a line in order: what each tree says, and how the bytes are gone over (document 01, section 'Text').
--
-- Definitions: the words of a tree
--   Event == a name, ?name, !name, %name, a number, an equality, an atom with its count of terms; the step at the end of an if form; the end
--   first_word == the place of the first word behind the key word
--   name_event, variable_event, parameter_event, minimum_event, number_event, term_event, atom_events == the words of terms and atoms
--   diagram_events == of a diagram: atom, part for true, part for false, step
--   item_event, shape_events, words_events == of a word by its sort; of what stands behind a key word, by its shape and by its kind
--
-- Definitions: the words of bytes
--   Seen, seen == an event, and how many bytes it takes with the space behind it
--   Word == a name's key, and the place of what follows
--   space, behind, space_bit, spaces == spaces passed and counted
--   name_key, word_at, is_if, atom_front, number_front, front_of == the event at the front of the bytes
--   is_end, events_from, events_of == all events of the bytes
--
-- Definitions: words without a diagram
--   no_key, key_in, number_in == the key, the number of a word
--   keys_in, numbers_in == of all words
--
-- Theorems
--   line-events: the events of the bytes of a well-formed line are those of its tree

pub mod Events
pub mod Front
pub mod Inner
pub mod FrontLaws
pub mod EventLaws
pub mod LineEvents
pub mod Contents
