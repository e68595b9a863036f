use native.Mathlib.Omega.{arith}
use Rattle.restoring.proofs.TestLaws.{names-few, last-other, last-unnamed, last_rest}
use Rattle.std.proofs.lemmas.Bool.{not_from_false}
use Rattle.std.proofs.lemmas.Bool.{not_from_true}
use Rattle.restoring.proofs.last_fits.Goals as goal

pub returns-then-n-actions : goal.returns-then-n-actions
returns-then-n-actions c =
    last-other _ _ _ c.if-n-actions.true

pub last_named-requires-clause-table_words_in_bounds : goal.last_named-requires-clause-table_words_in_bounds
last_named-requires-clause-table_words_in_bounds c =
    c.requires.few_variants.room

pub last_named-requires-clause-actions_le_most_actions : goal.last_named-requires-clause-actions_le_most_actions
last_named-requires-clause-actions_le_most_actions c =
    c.requires.few_variants.few

pub returns-then-not-last_named : goal.returns-then-not-last_named
returns-then-not-last_named c =
    last-unnamed _ _ _ c.if-n-actions.false c.last_named.ensures (not_from_false _ c.if-not-last_named.true)

pub overflow_add-result : goal.overflow_add-result
overflow_add-result c =
    omega (arith, names-few _ c.requires.n_value)

pub variants_before-requires : goal.variants_before-requires
variants_before-requires c =
    c.requires.few_variants

pub returns : goal.returns
returns c =
    last_rest _ _ _ c.if-n-actions.false c.last_named.ensures
    (not_from_true _ c.if-not-last_named.false) c.variants_before.ensures
