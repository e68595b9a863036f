use Rattle.label.proofs.CodeLaws.{pack-is}
use Rattle.label.proofs.Atom.pack.Goals as goal

pub returns : goal.returns
returns c =
    pack-is _
