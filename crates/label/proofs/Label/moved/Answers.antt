use Rattle.label.proofs.CodeLaws.{moved-is}
use Rattle.label.proofs.Label.moved.Goals as goal

pub returns : goal.returns
returns c =
    search moved-is
