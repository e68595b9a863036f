use Rattle.matcher.proofs.WayLaws.{alike-not, alike-sign}
use Rattle.matcher.proofs.alike.Goals as goal

pub returns-then-p-q : goal.returns-then-p-q
returns-then-p-q c =
    search alike-not

pub returns : goal.returns
returns c =
    search alike-sign
