use Rattle.restoring.proofs.TestLaws.{model-counts, model-arities, model-head, model-reward, model-actions, model-rest, reward-within, actions-few, actions-lent, variants-few}
use Rattle.checking.proofs.TestLaws.{passed}
use Rattle.std.proofs.lemmas.Bool.{not_from_false}
use Rattle.std.proofs.lemmas.Bool.{not_from_true}
use Rattle.restoring.proofs.model_fits.Goals as goal

pub returns-then-not-counts_fit : goal.returns-then-not-counts_fit
returns-then-not-counts_fit c =
    model-counts _ _ _ _ c.counts_fit.ensures (not_from_false _ c.if-not-counts_fit.true)

pub returns-then-not-arities_fit : goal.returns-then-not-arities_fit
returns-then-not-arities_fit c =
    model-arities _ _ _ _ c.counts_fit.ensures (not_from_true _ c.if-not-counts_fit.false) c.arities_fit.ensures (not_from_false _ c.if-not-arities_fit.true)

pub returns-then-not-head_fits : goal.returns-then-not-head_fits
returns-then-not-head_fits c =
    model-head _ _ _ _ c.counts_fit.ensures (not_from_true _ c.if-not-counts_fit.false)
    c.arities_fit.ensures (not_from_true _ c.if-not-arities_fit.false) c.head_fits.ensures (not_from_false _ c.if-not-head_fits.true)

pub reward_fits-requires : goal.reward_fits-requires
reward_fits-requires c =
    reward-within _ _ c.head_fits.ensures (not_from_true _ c.if-not-head_fits.false) c.requires.listing_words_in_bounds

pub returns-then-not-reward_fits : goal.returns-then-not-reward_fits
returns-then-not-reward_fits c =
    model-reward _ _ _ _ c.counts_fit.ensures (not_from_true _ c.if-not-counts_fit.false)
    c.arities_fit.ensures (not_from_true _ c.if-not-arities_fit.false) c.head_fits.ensures
    (not_from_true _ c.if-not-head_fits.false)
    c.reward_fits.ensures (not_from_false _ c.if-not-reward_fits.true)

pub returns-then-not-actions_fit : goal.returns-then-not-actions_fit
returns-then-not-actions_fit c =
    model-actions _ _ _ _ c.counts_fit.ensures
    (not_from_true _ c.if-not-counts_fit.false) c.arities_fit.ensures
    (not_from_true _ c.if-not-arities_fit.false) c.head_fits.ensures (not_from_true _ c.if-not-head_fits.false)
    c.reward_fits.ensures (not_from_true _ c.if-not-reward_fits.false) c.actions_fit.ensures (not_from_false _ c.if-not-actions_fit.true)

pub last_fits-requires-clause-n_value : goal.last_fits-requires-clause-n_value
last_fits-requires-clause-n_value c =
    passed c.counts_fit.ensures (not_from_true _ c.if-not-counts_fit.false)

pub last_fits-requires-clause-few_variants : goal.last_fits-requires-clause-few_variants
last_fits-requires-clause-few_variants c =
    variants-few _ _ _ _ c.head_fits.ensures (not_from_true _ c.if-not-head_fits.false) c.actions_fit.ensures (not_from_true _ c.if-not-actions_fit.false)
    c.requires.table_words_in_bounds

pub returns : goal.returns
returns c =
    model-rest _ _ _ _ c.counts_fit.ensures
    (not_from_true _ c.if-not-counts_fit.false)
    c.arities_fit.ensures (not_from_true _ c.if-not-arities_fit.false)
    c.head_fits.ensures (not_from_true _ c.if-not-head_fits.false)
    c.reward_fits.ensures (not_from_true _ c.if-not-reward_fits.false) c.actions_fit.ensures (not_from_true _ c.if-not-actions_fit.false) c.last_fits.ensures

pub actions_fit-requires-clause-lent : goal.actions_fit-requires-clause-lent
actions_fit-requires-clause-lent c =
    actions-lent _ _ _ _ c.arities_fit.ensures (not_from_true _ c.if-not-arities_fit.false)
    c.head_fits.ensures (not_from_true _ c.if-not-head_fits.false) c.requires.listing_words_in_bounds

pub actions_fit-requires-clause-n_le_most_actions : goal.actions_fit-requires-clause-n_le_most_actions
actions_fit-requires-clause-n_le_most_actions c =
    actions-few _ c.head_fits.ensures (not_from_true _ c.if-not-head_fits.false)
