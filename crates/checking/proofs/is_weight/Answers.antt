use Rattle.checking.proofs.TestLaws.{passed, weight-unlisted, weight-rest}
use native.Mathlib.Omega.{arith}
use Rattle.std.proofs.lemmas.Bool.{not_from_false}
use Rattle.std.proofs.lemmas.Bool.{not_from_true}
use Rattle.checking.proofs.is_weight.Goals as goal

pub returns-then-not-check : goal.returns-then-not-check
returns-then-not-check c =
    weight-unlisted _ _ _ c.check.ensures (not_from_false _ c.if-not-check.true)

pub lacks-requires-clause-words_value : goal.lacks-requires-clause-words_value
lacks-requires-clause-words_value c =
    passed c.check.ensures (not_from_true _ c.if-not-check.false)

pub lacks-requires-clause-n_bound : goal.lacks-requires-clause-n_bound
lacks-requires-clause-n_bound c =
    omega arith

pub returns : goal.returns
returns c =
    weight-rest _ _ _ c.check.ensures (not_from_true _ c.if-not-check.false) c.lacks.ensures
