use Rattle.matcher.proofs.WayLaws.{turn-first, turn-second, turn-other}
use Rattle.matcher.proofs.turned.Goals as goal

pub returns-then-k-eq0 : goal.returns-then-k-eq0
returns-then-k-eq0 c =
    search turn-first

pub returns-then-k-eq1 : goal.returns-then-k-eq1
returns-then-k-eq1 c =
    search turn-second

pub returns : goal.returns
returns c =
    search turn-other
