use Rattle.reader.proofs.TermCode.{join-known, join-full, join-new}
use Rattle.reader.proofs.join.Goals as goal

pub returns-then-find-count : goal.returns-then-find-count
returns-then-find-count c =
    search join-known

pub returns-then-count-gt-VARIABLES : goal.returns-then-count-gt-VARIABLES
returns-then-count-gt-VARIABLES c =
    search join-full

pub returns : goal.returns
returns c =
    search join-new
