use Rattle.matcher.proofs.MaskLaws.{part-is}
use Rattle.matcher.proofs.part_of.Goals as goal

pub returns : goal.returns
returns c =
    part-is _ _
