use Rattle.lines.proofs.PlaceLaws.{placed-none, placed-each}
use Rattle.lines.proofs.is_placed.Goals as goal

pub returns-then-n-ne0 : goal.returns-then-n-ne0
returns-then-n-ne0 c =
    search placed-each

pub returns-else-n-ne0 : goal.returns-else-n-ne0
returns-else-n-ne0 c =
    placed-none _ _ c.if-n-ne0.false
