use Rattle.listing.proofs.RowLaws.{pass-twin, pass-end}
use Rattle.listing.proofs.are_valid_rows.Goals as goal

pub returns-then-not-enter : goal.returns-then-not-enter
returns-then-not-enter c =
    search pass-twin

pub returns : goal.returns
returns c =
    search pass-end
