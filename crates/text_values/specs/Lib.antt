-- What a text's printed values stand for (document 01, section 'Backup').
--
-- Theorem
--   text-discounted: after any lines, an answered (value v k w) says that v / w is the k-step Bellman value, with discount G / D and probabilities weight / W, of
--     the state in hand

-- laws
pub mod TextValueLaws
