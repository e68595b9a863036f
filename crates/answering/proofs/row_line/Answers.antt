use Rattle.answering.proofs.LineLaws.{row-leaf, row-branch}
use Rattle.answering.proofs.row_line.Goals as goal

pub returns-then-label : goal.returns-then-label
returns-then-label c =
    search row-leaf

pub returns : goal.returns
returns c =
    search row-branch
