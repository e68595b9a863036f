-- Tables in words that the caller lends: names as keys, one behind another (document 01, section 'Text').
--
-- Definitions
--   many == a table: f 0, f 1, .., f (n - 1)
--   constants_at, declared_at, actions_at, parameters_at, variants_at, name_words == where the tables of a session's names begin
--   same_key == two names are the same where their keys are
--   key_at, keys_at == key i of a table, its first n keys
--   place_of, is_among == the place of a key among keys; whether it is there
--   put_key == the words with a key written at a place
--
-- Theorems
--   place_at: the place of a key is where it stands first; place_none: a key that is not there has the place behind the last
--   keys-more: a key put behind the last is one key more

pub mod Many
pub mod ManyLaws
pub mod Layout
pub mod Keys
pub mod Inner
pub mod KeyLaws
