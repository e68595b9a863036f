-- Every line of the model keeps a session good, the names of all variants among them (document 02, L10), and the count of the model's rows right (document 01,
-- section 'Text'); weights that pass add up.
--
-- Definitions
--   rows_in, truth_rows, variant_rows, action_rows, model_rows == the rows of all model listings: the reward's, the weights' and the truth diagrams'
--   Counted == `rows` of a session is that sum
--   AddsUp == the weights of an action's variants add up to w, in every state and for every tuple
--   WeightSum, PassesRule, FailsRule == the sum of an action's weights, of at most 256 paths; each path with a leaf other than w contradicts itself; for some
--     action, those before it passing, one does not
--   IsWeighed == weights are accepted exactly if each action passes, and refused with 13 exactly if one fails (document 02, L5)
--
-- Theorems
--   constant-good: an accepted (constant n) keeps a session good
--   predicate-good: so does (predicate n arity): what holds under an arity list holds under one that has grown (GrowthLaws)
--   total-good: (total W); discount-good: (discount G D)
--   action-good: (action n !p ..)
--   reward-good: (reward DIAGRAM)
--   variant-good: (variant n WEIGHT)
--   becomes-good: (becomes (p ?a ..) DIAGRAM)
--   reward-counted, action-counted, variant-counted, becomes-counted: each keeps `rows` the sum of the rows of all model listings
--   weighed-exactly: (start) accepts and refuses the weights so (IsWeighed)
--   weighed-adds-up: where (start) accepts the weights, those of each action add up to W in every state, for every tuple (document 02, L5)
--   adds-up-leads: and an action whose weights add up to W in every state, for every tuple, is not refused 13
--   variants-more, variants-added, variants-kept: the variants of all actions behind one action, one variant or one truth diagram more; variants-most: at most 8 for each action
--   built-read: what a good reading builds is a good diagram, with the terms that the reading names

pub mod ModelRows
pub mod Adding
