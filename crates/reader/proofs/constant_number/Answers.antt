use Rattle.reader.proofs.TermCode.{constant-none, constant-is}
use Rattle.reader.proofs.constant_number.Goals as goal

pub returns-then-n-i : goal.returns-then-n-i
returns-then-n-i c =
    search constant-none

pub returns : goal.returns
returns c =
    search constant-is
