use Rattle.answering.proofs.LineLaws.{count-pair}
use Rattle.answering.proofs.count_line.Goals as goal

pub returns : goal.returns
returns c =
    search count-pair
