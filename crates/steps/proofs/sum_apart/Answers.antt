use Rattle.steps.specs.GivenLaws.{callable, named-wrote}
use Rattle.apply.specs.declared.Names.TheVariants.{Apart}
use Rattle.steps.proofs.sum_apart.Goals as goal

pub combine_apart-requires : goal.combine_apart-requires
combine_apart-requires c =
    callable c.requires

pub returns : goal.returns
returns c =
    named-wrote Apart c.requires c.combine_apart.ensures c.told.ensures
