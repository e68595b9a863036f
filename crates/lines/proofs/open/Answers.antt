use Rattle.lines.proofs.OpenLaws.{opened}
use Rattle.lines.proofs.open.Goals as goal

pub returns : goal.returns
returns c =
    search opened
