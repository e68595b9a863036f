use Rattle.reader.proofs.TermCode.{bound-none, bound-is}
use Rattle.reader.proofs.bound_number.Goals as goal

pub returns-then-count-i : goal.returns-then-count-i
returns-then-count-i c =
    search bound-none

pub returns : goal.returns
returns c =
    search bound-is
