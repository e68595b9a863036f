use Rattle.lines.proofs.PlaceLaws.{whole-unrewarded, whole-idle, whole-varied}
use Rattle.lines.proofs.is_whole.Goals as goal

pub returns-then-n-eq0 : goal.returns-then-n-eq0
returns-then-n-eq0 c =
    search whole-idle

pub returns-then-n : goal.returns-then-n
returns-then-n c =
    search whole-varied

pub returns-else-n : goal.returns-else-n
returns-else-n c =
    whole-unrewarded _ _ c.if-n.false
