use Rattle.reader.proofs.GatherCode.{gather-other, gather-full, gather-insertable, gather-more}
use Rattle.reader.proofs.gather.Goals as goal

pub returns-in_err-n : goal.returns-in_err-n
returns-in_err-n c =
    rw c.from_residual.ensures (search (gather-other, c.in_err-n.was))

pub returns-then-count-gt-VARIABLES : goal.returns-then-count-gt-VARIABLES
returns-then-count-gt-VARIABLES c =
    search (gather-full, c.in_ok-n.was)

pub insert-requires : goal.insert-requires
insert-requires c =
    search (gather-insertable, c.in_ok-n.was)

pub returns : goal.returns
returns c =
    search (gather-more, c.in_ok-n.was)
