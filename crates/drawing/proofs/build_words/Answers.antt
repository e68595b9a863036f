use Rattle.drawing.proofs.BuiltLaws.{built-refused, built-writable, built-row}
use Rattle.drawing.proofs.build_words.Goals as goal

pub write_row-requires : goal.write_row-requires
write_row-requires c =
    built-writable c.requires c.build_space.auto.work c.build_space.ensures c.in-Ok.is

pub returns-in-Ok : goal.returns-in-Ok
returns-in-Ok c =
    built-row c.requires c.build_space.auto.work c.build_space.ensures c.in-Ok.is c.write_row.ensures

pub returns-in-Err : goal.returns-in-Err
returns-in-Err c =
    built-refused c.requires c.build_space.auto.work c.build_space.ensures c.in-Err.is
