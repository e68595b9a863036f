use Rattle.reader.proofs.TermCode.{number-any, number-none, number-only}
use Rattle.reader.proofs.variable_number.Goals as goal

pub returns-in-Any : goal.returns-in-Any
returns-in-Any c =
    search number-any

pub returns-in-None : goal.returns-in-None
returns-in-None c =
    search number-none

pub returns-in-Only : goal.returns-in-Only
returns-in-Only c =
    search number-only
