use Rattle.label.proofs.CodeLaws.{fits-not-predicate, fits_not, fits-not-ended, fits-other, fits-equality}
use Rattle.label.proofs.Label.fits.Goals as goal

pub returns-then-p-ge-PREDICATES : goal.returns-then-p-ge-PREDICATES
returns-then-p-ge-PREDICATES c =
    search fits-not-predicate

pub returns-then-not-is_term : goal.returns-then-not-is_term
returns-then-not-is_term c =
    search fits_not

pub returns-then-p-ne0 : goal.returns-then-p-ne0
returns-then-p-ne0 c =
    search fits-other

pub returns-else-p-ne0 : goal.returns-else-p-ne0
returns-else-p-ne0 c =
    search fits-equality

pub returns-else-ends_at : goal.returns-else-ends_at
returns-else-ends_at c =
    search fits-not-ended
