use Rattle.label.proofs.CodeLaws.{mapped-is}
use Rattle.label.proofs.Atom.mapped.Goals as goal

pub returns : goal.returns
returns c =
    search mapped-is
