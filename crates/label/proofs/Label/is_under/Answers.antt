use Rattle.label.proofs.CodeLaws.{under_all, under-label, under-not}
use Rattle.label.proofs.Label.is_under.Goals as goal

pub fits-requires : goal.fits-requires
fits-requires c =
    search under_all

pub returns-then-are_arities : goal.returns-then-are_arities
returns-then-are_arities c =
    search under-label

pub returns-else-are_arities : goal.returns-else-are_arities
returns-else-are_arities c =
    search under-not
