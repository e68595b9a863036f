use Rattle.matcher.proofs.MaskLaws.{one_none, one-some}
use Rattle.matcher.proofs.one.Goals as goal

pub returns-then-t-lt-FIRST_VARIABLE : goal.returns-then-t-lt-FIRST_VARIABLE
returns-then-t-lt-FIRST_VARIABLE c =
    search one_none

pub returns : goal.returns
returns c =
    search one-some
