use Rattle.reader.proofs.PassCode.{begin-room, begin-goes}
use Rattle.reader.proofs.begin.Goals as goal

pub ask-requires : goal.ask-requires
ask-requires c =
    search begin-room

pub returns : goal.returns
returns c =
    search begin-goes
