use Rattle.reader.proofs.TermCode.{meet-any, meet-bound}
use Rattle.reader.proofs.meet.Goals as goal

pub returns-in-Any : goal.returns-in-Any
returns-in-Any c =
    search meet-any

pub returns-in-None : goal.returns-in-None
returns-in-None c =
    search meet-bound
