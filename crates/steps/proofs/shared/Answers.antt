use Rattle.steps.specs.GivenLaws.{callable, named-wrote}
use Rattle.apply.specs.declared.Names.TheVariants.{Shared}
use Rattle.steps.proofs.shared.Goals as goal

pub combine_named-requires : goal.combine_named-requires
combine_named-requires c =
    callable c.requires

pub returns : goal.returns
returns c =
    named-wrote Shared c.requires c.combine_named.ensures c.told.ensures
