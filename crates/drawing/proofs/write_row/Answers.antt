use Rattle.drawing.proofs.BuiltLaws.{row-writable, row-told}
use lib.Dec.{lit≤}
use Rattle.drawing.proofs.write_row.Goals as goal

pub write-requires : goal.write-requires
write-requires c =
    row-writable c.requires 2048 2048 (lit≤ tt) (lit≤ tt)

pub returns : goal.returns
returns c =
    row-told c.write.ensures c.ok_or.ensures.value
