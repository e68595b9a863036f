use Rattle.matcher.proofs.MaskLaws.{has-is}
use Rattle.matcher.proofs.has.Goals as goal

pub returns : goal.returns
returns c =
    has-is _ _
