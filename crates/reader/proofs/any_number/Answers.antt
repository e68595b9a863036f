use Rattle.reader.proofs.TermCode.{any-is}
use Rattle.reader.proofs.any_number.Goals as goal

pub returns : goal.returns
returns c =
    search any-is
