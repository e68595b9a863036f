use Rattle.matcher.proofs.WayLaws.{count-equal, count-plain}
use Rattle.matcher.proofs.way_count.Goals as goal

pub returns-then-is_equality : goal.returns-then-is_equality
returns-then-is_equality c =
    search count-equal

pub returns : goal.returns
returns c =
    search count-plain
