use Rattle.label.proofs.CodeLaws.{placed-unused, placed-used}
use Rattle.label.proofs.placed.Goals as goal

pub returns-then-k-n : goal.returns-then-k-n
returns-then-k-n c =
    search placed-used

pub returns-else-k-n : goal.returns-else-k-n
returns-else-k-n c =
    search placed-unused
