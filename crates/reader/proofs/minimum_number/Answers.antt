use Rattle.reader.proofs.TermCode.{minimum-is, minimum-unbound}
use Rattle.reader.proofs.minimum_number.Goals as goal

pub returns-in-Any : goal.returns-in-Any
returns-in-Any c =
    search minimum-is

pub returns-in-None : goal.returns-in-None
returns-in-None c =
    search minimum-unbound
