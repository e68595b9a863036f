use Rattle.matcher.proofs.CoversLaws.{part_post}
use Rattle.matcher.proofs.match_part.Goals as goal

pub returns : goal.returns
returns c =
    part_post (c.requires) c.unplace.ensures.unplaced c.unplace.ensures.by_index c.unplace.auto.tab c.first_places.ensures c.decide.ensures
