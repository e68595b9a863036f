use Rattle.answering.proofs.WriteLaws.{two_fields}
use Rattle.answering.proofs.pair_line.Goals as goal

pub returns : goal.returns
returns c =
    search two_fields
