-- Models in lent words (document 01, sections 'Text' and 'Backup').
--
-- Definitions
--   listing_words, table_words == how many words the listings take together; the table of actions
--   span_words, variant_words, action_words == in the table: the spans of a variant's truth diagrams; a variant; an action
--   part, variant_place == n words from a place on; where a variant stands in the table
--   weight_words, spans_at, variant_at == the words of a weight; the spans of truth diagrams; the variant
--   variants_of, action_at == how many variants an action has; the action
--   Head, reward_words, model_of == the model's numbers; the words of its reward; the model that the words are
--
-- The rest of Layout (LaidVariant, LaidAction, Laid: a model laid out as reading leaves it) has inner contracts.

pub mod Layout
pub mod Inner
