use Rattle.combination.proofs.CallLaws.{as-max}
use Rattle.diagram.specs.Listing.{diagram_of}
use Rattle.combination.proofs.done_as.Goals as goal

pub returns-in-Max : goal.returns-in-Max
returns-in-Max c =
    as-max c.args.names c.args.arities.now (diagram_of c.args.x.now) (diagram_of c.args.y.now) c.in-Max.is c.max_as.ensures
