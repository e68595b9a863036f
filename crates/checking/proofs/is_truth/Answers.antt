use Rattle.checking.proofs.TestLaws.{passed, truth-unlisted, truth-refused, truth-rest}
use Rattle.diagram.specs.ListingValid.{listing-is-valid}
use Rattle.std.proofs.lemmas.Bool.{not_from_false}
use Rattle.std.proofs.lemmas.Bool.{not_from_true}
use Rattle.checking.proofs.is_truth.Goals as goal

pub returns-then-not-check : goal.returns-then-not-check
returns-then-not-check c =
    truth-unlisted _ _ _ _ c.check.ensures (not_from_false _ c.if-not-check.true)

pub judge-v-requires-clause-valid : goal.judge-v-requires-clause-valid
judge-v-requires-clause-valid c =
    listing-is-valid _ _ (passed c.check.ensures (not_from_true _ c.if-not-check.false))

pub judge-v-requires-clause-n_le_most_places : goal.judge-v-requires-clause-n_le_most_places
judge-v-requires-clause-n_le_most_places c =
    c.requires.n_le_most_places

pub returns-in_default : goal.returns-in_default
returns-in_default c =
    truth-refused _ _ _ _ c.check.ensures (not_from_true _ c.if-not-check.false) c.judge-v.ensures c.in_default.is

pub returns : goal.returns
returns c =
    truth-rest _ _ _ _ c.check.ensures (not_from_true _ c.if-not-check.false) c.judge-v.ensures
    c.in-Ok.is c.lacks.ensures
