use Rattle.reader.proofs.PartCode.{minimum-back}
use Rattle.reader.proofs.meet_minimum.Goals as goal

pub returns : goal.returns
returns c =
    search minimum-back
