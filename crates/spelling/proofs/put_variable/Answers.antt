use Rattle.spelling.proofs.NameLaws.{before-room, digits-room, variable-wrote}
use Rattle.spelling.proofs.put_variable.Goals as goal

pub put_bytes-j-requires : goal.put_bytes-j-requires
put_bytes-j-requires c =
    search before-room

pub put_number-requires : goal.put_number-requires
put_number-requires c =
    search digits-room

pub returns : goal.returns
returns c =
    search variable-wrote
