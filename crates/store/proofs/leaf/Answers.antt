use Rattle.store.proofs.SpaceLaws.{leaf-formed}
use Rattle.store.proofs.leaf.Goals as goal

pub returns : goal.returns
returns c =
    search leaf-formed
