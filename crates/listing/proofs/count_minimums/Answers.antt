use Rattle.listing.proofs.MarkLaws.{counted-minimums}
use Rattle.listing.proofs.count_minimums.Goals as goal

pub returns : goal.returns
returns c =
    search counted-minimums
