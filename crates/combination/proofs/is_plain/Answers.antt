use Rattle.combination.proofs.CallLaws.{plain-is}
use Rattle.combination.proofs.is_plain.Goals as goal

pub returns : goal.returns
returns c =
    plain-is c.used.ensures c.is_plain.ensures
