use Rattle.answering.proofs.LineLaws.{reduce-parts}
use Rattle.answering.proofs.reduce_line.Goals as goal

pub returns : goal.returns
returns c =
    search reduce-parts
