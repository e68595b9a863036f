-- Models, the Bellman values, backups, and runs of backups, cuts and reductions (document 01, sections 'Backup' and 'Cut'; document 02, L12 and L13).
--
-- Definitions: models
--   most_total, most_denominator, most_actions, most_variants == 1,000,000 each for W and D; 8 actions, 8 variants each
--   Variant, Action == a weight and truth diagrams by predicate; a parameter count and variants in order
--   Model == the arity list, W, the discount G / D, the reward as read, and the actions in order
--   scale == S = W · D
--   Every == a property of each of a list
--   GoodTruthDiagram == leaves 0 and 1, the arguments and no other variable, the action's parameters only
--   GoodVariant, GoodAction, GoodModel == what reading a model establishes, from weights to the reward
--
-- Definitions: the Bellman values
--   weight_in, state_after, reward_in == a weight, the next state and the reward's value in a state, with a tuple for the parameters
--   bellman == M0 is the reward's value; M(k+1)(s) = S^(k+1) · M0(s) + the best of the sums of G · weight · Mk(next state)
--
-- Definitions: backups and runs
--   given, combined == a combination as an outcome; a max with shared names is done apart where either side has a minimum variable (document 02, L12)
--   variants_sum, actions_best == the sum over an action's variants; the best over the actions, freed and closed up
--   highest_scale, most_steps, scale_ends == S^(k+1) is above 10^18, or k is 10^18: 12
--   row_of_calls, backup == the best over the actions, plus the reward times S^(k+1), apart; 12 first; the first refusal met is the answer
--   leaves, cut_outcome == a cut as an outcome
--   Call, Held, held_with, call, taken == a backup, a cut or a reduction; the value diagram and k; what a call gives of them or what refuses it; a refused call leaves them
--   begin, run_from, run == the reward and 0, then a list of calls
--
-- Definitions: document 01's run
--   for_first, no_truths, hub, stock, equals, run_truth, run_model == its labels and its model
--   everywhere == its model with a minimum variable in the reward
--   nothing_true, is_nought, stock_at_hub == its two states
--   shown, eight_model, ab, ba == what (value) prints; the model and the labels of other marked cases
--   aa, linked, pair_model == a model for what a cut misses and a reduction finds
--   bb, path_to_zero == a diagram with a winning path to leaf 0
--
-- Theorems
--   demand-3: after any list of backups, cuts and reductions, refused ones among them, the value diagram's number is Mk in every state, whatever variables the reward has
--   backup-steps: a backup takes a diagram of whatever values x to one of S^(k+1) · M0 + the best of the sums of G · weight · x
--   backup-is: so it takes a diagram of the values Mk to one of the values M(k+1)
--   cut-is: a cut leaves a diagram of the same values
--   value-is: so the number that valuing answers after a run is Mk of the lent state
--   table: the ten marked cases, by computation
--   table-reduction: a diagram that a cut leaves alone (16) and a reduction shortens, by computation
--   table-path-to-zero: a reduction leaves the winning path to leaf 0, by computation
--   table-minimum: a max with shared names done apart, 25, 26 and a backup, of diagrams with a minimum variable, by computation
--   run-rows: the rows that document 01's run shows after its backup, with the numbers of document 02, L8
--   run-labels: the labels of document 01's run have the numbers of document 02, L8
--   run-model-good, everywhere-good: the model of document 01's run is one that reading can accept, with a minimum variable in the reward too

-- definitions
pub mod Model
pub mod Bellman
pub mod Backup
pub mod Runs
pub mod Example
pub mod Cases
