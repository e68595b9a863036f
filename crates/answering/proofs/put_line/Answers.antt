use Rattle.answering.proofs.LineLaws.{placed_past, placed-short, placed_at}
use Rattle.answering.proofs.put_line.Goals as goal

pub returns-then-out-at : goal.returns-then-out-at
returns-then-out-at c =
    search placed_past

pub returns-then-out-at-2 : goal.returns-then-out-at-2
returns-then-out-at-2 c =
    search placed-short

pub returns : goal.returns
returns c =
    search placed_at
