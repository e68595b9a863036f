use Rattle.c_library.proofs.SessionLaws.{position-is}
use Rattle.c_library.proofs.position.Goals as goal

pub returns : goal.returns
returns c =
    position-is _ c.load.ensures c.lines_of.ensures c.met_of.ensures
