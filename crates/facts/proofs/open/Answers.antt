use Rattle.facts.proofs.IndexLaws.{open_done}
use Rattle.facts.proofs.open.Goals as goal

pub returns : goal.returns
returns c =
    search open_done
