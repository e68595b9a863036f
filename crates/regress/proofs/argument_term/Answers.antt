use Rattle.regress.proofs.TruthLaws.{argument-is-low, argument-is-unused, argument-is-place}
use Rattle.regress.proofs.argument_term.Goals as goal

pub returns-then-t-lt-FIRST_VARIABLE : goal.returns-then-t-lt-FIRST_VARIABLE
returns-then-t-lt-FIRST_VARIABLE c =
    search argument-is-low

pub returns-then-k-n : goal.returns-then-k-n
returns-then-k-n c =
    search argument-is-unused

pub returns : goal.returns
returns c =
    search argument-is-place
