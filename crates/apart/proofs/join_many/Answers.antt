use Rattle.apart.proofs.JoinLaws.{join-pairable, join-writable, join-done, join-many, join-high, join-full}
use lib.Dec.{lit≤}
use Rattle.apart.proofs.join_many.Goals as goal

pub join_rows-joined-requires-clause-pairable : goal.join_rows-joined-requires-clause-pairable
join_rows-joined-requires-clause-pairable c =
    join-pairable c.requires 4096 20480 4096 (lit≤ tt) (lit≤ tt) (lit≤ tt)

pub write_result-requires : goal.write_result-requires
write_result-requires c =
    join-writable c.requires (lit≤ tt) c.join_rows-joined.ensures c.in-At.is

pub returns-in-At : goal.returns-in-At
returns-in-At c =
    join-done c.requires (lit≤ tt) c.join_rows-joined.ensures c.in-At.is c.write_result.ensures

pub returns-in-TooManyPairs : goal.returns-in-TooManyPairs
returns-in-TooManyPairs c =
    join-many c.requires (lit≤ tt) c.join_rows-joined.ensures (lit≤ tt) c.in-TooManyPairs.is

pub returns-in-TooHighValue : goal.returns-in-TooHighValue
returns-in-TooHighValue c =
    join-high c.requires (lit≤ tt) c.join_rows-joined.ensures c.in-TooHighValue.is

pub returns-in-NoRoom : goal.returns-in-NoRoom
returns-in-NoRoom c =
    join-full c.requires (lit≤ tt) c.join_rows-joined.ensures c.in-NoRoom.is
