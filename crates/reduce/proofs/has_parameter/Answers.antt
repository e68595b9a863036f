use Rattle.diagram.specs.ListingValid.{listing-is-valid}
use Rattle.reduce.proofs.KindLaws.{parameter-marked}
use Rattle.reduce.proofs.has_parameter.Goals as goal

pub used-requires-clause-valid : goal.used-requires-clause-valid
used-requires-clause-valid c =
    listing-is-valid _ _ c.requires

pub returns : goal.returns
returns c =
    search parameter-marked
