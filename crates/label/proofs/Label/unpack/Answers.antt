use Rattle.label.proofs.CodeLaws.{unpack-is}
use Rattle.label.proofs.Label.unpack.Goals as goal

pub returns : goal.returns
returns c =
    search unpack-is
