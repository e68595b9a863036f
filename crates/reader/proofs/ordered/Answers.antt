use Rattle.reader.proofs.NumberCode.{pair-less, pair-more}
use Rattle.reader.proofs.ordered.Goals as goal

pub returns-then-n-m : goal.returns-then-n-m
returns-then-n-m c =
    search pair-less

pub returns : goal.returns
returns c =
    search pair-more
