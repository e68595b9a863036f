use Rattle.reader.proofs.TermCode.{parameter-none, parameter-is}
use Rattle.reader.proofs.parameter_number.Goals as goal

pub returns-then-n-i : goal.returns-then-n-i
returns-then-n-i c =
    search parameter-none

pub returns : goal.returns
returns c =
    search parameter-is
