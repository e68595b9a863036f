use Rattle.listing.proofs.MarkLaws.{counted-variables}
use Rattle.listing.proofs.count_variables.Goals as goal

pub returns : goal.returns
returns c =
    search counted-variables
