use Rattle.matcher.proofs.WayLaws.{way_equal, way-plain, count-below, count_room}
use Rattle.matcher.proofs.way_at.Goals as goal

pub equal_way-requires-clause-j_bound : goal.equal_way-requires-clause-j_bound
equal_way-requires-clause-j_bound c =
    count-below _ _ c.is_equality.ensures c.if-is_equality.true c.requires.j_bound

pub returns-then-is_equality : goal.returns-then-is_equality
returns-then-is_equality c =
    way_equal _ _ _ _ c.is_equality.ensures c.if-is_equality.true c.equal_way.ensures

pub plain_way-requires : goal.plain_way-requires
plain_way-requires c =
    count_room _ _ c.is_equality.ensures c.if-is_equality.false c.requires.j_bound

pub returns : goal.returns
returns c =
    way-plain _ _ _ _ c.is_equality.ensures c.if-is_equality.false c.plain_way.ensures
