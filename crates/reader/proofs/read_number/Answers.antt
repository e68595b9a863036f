use Rattle.reader.proofs.PassCode.{number-range, number-goes}
use Rattle.reader.proofs.read_number.Goals as goal

pub returns-then-value-gt-VALUE : goal.returns-then-value-gt-VALUE
returns-then-value-gt-VALUE c =
    search number-range

pub returns : goal.returns
returns c =
    search number-goes
