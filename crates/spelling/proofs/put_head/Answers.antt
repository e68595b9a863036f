use Rattle.spelling.proofs.TestLaws.{equal-room, equal-wrote, bracket-room, head-room, head-wrote}
use Rattle.spelling.proofs.put_head.Goals as goal

pub put_bytes-requires : goal.put_bytes-requires
put_bytes-requires c =
    search equal-room

pub returns-then-p-eq-EQUALITY : goal.returns-then-p-eq-EQUALITY
returns-then-p-eq-EQUALITY c =
    search equal-wrote

pub put_bytes-i-requires : goal.put_bytes-i-requires
put_bytes-i-requires c =
    search bracket-room

pub put_name-requires-clause-i_in_bounds : goal.put_name-requires-clause-i_in_bounds
put_name-requires-clause-i_in_bounds c =
    search head-room

pub returns : goal.returns
returns c =
    search head-wrote
