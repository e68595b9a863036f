use native.Mathlib.Omega.{arith}
use lib.Dec.{lit≤}
use Rattle.regress.proofs.AnswerLaws.{in-ready, in-regresses}
use Rattle.regress.proofs.regress_in.Goals as goal

pub regress_rows-requires-clause-value_value : goal.regress_rows-requires-clause-value_value
regress_rows-requires-clause-value_value g c =
    c.requires.runnable.value-listing

pub regress_rows-requires-clause-lent : goal.regress_rows-requires-clause-lent
regress_rows-requires-clause-lent g c =
    c.requires.runnable.lent

pub regress_rows-requires-clause-ready : goal.regress_rows-requires-clause-ready
regress_rows-requires-clause-ready g c =
    in-ready c.requires.runnable _ 4096 2048 2048 c.requires.room c.requires.words_le_most (lit≤ tt) (lit≤ tt) (lit≤ tt)

pub returns : goal.returns
returns g c =
    in-regresses _ c.regress_rows.ensures

pub whole_as_slice-regress_rows : goal.whole_as_slice-regress_rows
whole_as_slice-regress_rows g c =
    omega arith
