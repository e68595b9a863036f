use Rattle.matcher.proofs.WayLaws.{equality-is}
use Rattle.matcher.proofs.is_equality.Goals as goal

pub returns : goal.returns
returns c =
    equality-is _ c.predicate.ensures
