use Rattle.facts.proofs.TupleLaws.{add_done}
use Rattle.facts.proofs.add.Goals as goal

pub returns : goal.returns
returns c =
    search add_done
