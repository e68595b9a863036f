use Rattle.valuing.proofs.FactLaws.{found-indexed, found-scanned}
use Rattle.valuing.proofs.found.Goals as goal

pub returns-then-indexed : goal.returns-then-indexed
returns-then-indexed c =
    search found-indexed

pub returns-else-indexed : goal.returns-else-indexed
returns-else-indexed c =
    search found-scanned
