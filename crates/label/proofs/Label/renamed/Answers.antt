use Rattle.label.proofs.CodeLaws.{renamed-is}
use Rattle.label.proofs.Label.renamed.Goals as goal

pub returns : goal.returns
returns c =
    search renamed-is
