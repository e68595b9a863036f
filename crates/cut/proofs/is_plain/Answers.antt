use Rattle.diagram.specs.ListingValid.{listing-is-valid}
use Rattle.cut.proofs.CallLaws.{plain-is}
use Rattle.cut.proofs.is_plain.Goals as goal

pub used-requires-clause-valid : goal.used-requires-clause-valid
used-requires-clause-valid c =
    listing-is-valid _ _ c.requires

pub returns : goal.returns
returns c =
    plain-is c.used.ensures c.is_plain.ensures
