use Rattle.checking.proofs.TestLaws.{passed, value-unlisted, value-open, value-rest}
use lib.Dec.{lit≤}
use Rattle.std.proofs.lemmas.Bool.{not_from_false}
use Rattle.std.proofs.lemmas.Bool.{not_from_true}
use Rattle.checking.proofs.is_value.Goals as goal

pub returns-then-not-check : goal.returns-then-not-check
returns-then-not-check c =
    value-unlisted _ _ c.check.ensures (not_from_false _ c.if-not-check.true)

pub is_closed-requires : goal.is_closed-requires
is_closed-requires c =
    passed c.check.ensures (not_from_true _ c.if-not-check.false)

pub returns-then-not-is_closed : goal.returns-then-not-is_closed
returns-then-not-is_closed c =
    value-open _ _ c.check.ensures (not_from_true _ c.if-not-check.false) c.is_closed.ensures (not_from_false _ c.if-not-is_closed.true)

pub lacks-requires-clause-words_value : goal.lacks-requires-clause-words_value
lacks-requires-clause-words_value c =
    passed c.check.ensures (not_from_true _ c.if-not-check.false)

pub lacks-requires-clause-n_bound : goal.lacks-requires-clause-n_bound
lacks-requires-clause-n_bound c =
    lit≤ tt

pub returns : goal.returns
returns c =
    value-rest _ _ c.check.ensures (not_from_true _ c.if-not-check.false) c.is_closed.ensures (not_from_true _ c.if-not-is_closed.false)
    c.lacks.ensures
