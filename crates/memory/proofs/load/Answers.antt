use Rattle.memory.proofs.StoreLaws.{loaded}
use Rattle.memory.proofs.load.Goals as goal

pub returns : goal.returns
returns c =
    loaded _ c.part_of.ensures
