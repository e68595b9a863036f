use Rattle.listing.proofs.RowLaws.{enter-new, enter-old}
use Rattle.listing.proofs.enter.Goals as goal

pub returns-in-Some : goal.returns-in-Some
returns-in-Some c =
    search enter-old

pub returns-in-None : goal.returns-in-None
returns-in-None c =
    search enter-new
