use Rattle.steps.specs.GivenLaws.{leaf-operands, leaf-wrote}
use Rattle.steps.proofs.times_leaf.Goals as goal

pub shared-requires : goal.shared-requires
shared-requires c =
    leaf-operands c.requires

pub returns : goal.returns
returns c =
    leaf-wrote c.requires c.shared.ensures
