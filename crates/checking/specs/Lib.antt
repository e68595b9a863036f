-- Whether lent words are a model's: a test that computes (document 01, sections 'Text' and 'Regression').
--
-- Definitions
--   own_parameters == no parameter but those of the action
--   is_truth, is_weight, is_value == the words are the listing of a truth diagram; of a weight; of a value diagram, as the reward is one
--   is_inside, truth_at == a listing's words lie within those in use; where the two words for a truth diagram stand
--   truth_fits, variant_fits, action_fits, actions_fit == the test of a truth diagram in the table, of a variant, of an action, of the first actions
--
-- Theorems, in FittingLaws
--   truth-is, weight_is, value-is, action-is == each test is true exactly if the words are what the document asks
--
-- DecisionLaws: tests put together.

pub mod Fitting
pub mod Lent
-- laws
pub mod DecisionLaws
pub mod FittingLaws
