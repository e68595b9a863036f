use Rattle.reader.proofs.PassCode.{give-none, give-fills, give-room, give-goes}
use Rattle.reader.proofs.give.Goals as goal

pub returns-then-pass-eq0 : goal.returns-then-pass-eq0
returns-then-pass-eq0 c =
    search give-none

pub fill-requires : goal.fill-requires
fill-requires c =
    search give-fills

pub ask-requires : goal.ask-requires
ask-requires c =
    search give-room

pub returns : goal.returns
returns c =
    search give-goes
