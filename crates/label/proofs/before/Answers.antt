use Rattle.label.proofs.OrderLaws.{compared_is}
use Rattle.label.proofs.before.Goals as goal

pub returns : goal.returns
returns c =
    compared_is _ _
