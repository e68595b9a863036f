use Rattle.drawing.proofs.BuiltLaws.{reward-refused, reward-writable, reward-row}
use Rattle.drawing.proofs.build_closed_words.Goals as goal

pub write_closed-requires : goal.write_closed-requires
write_closed-requires c =
    reward-writable c.requires.under c.requires.callable c.build_space.auto.work c.build_space.ensures c.in-Ok.is

pub returns-in-Ok : goal.returns-in-Ok
returns-in-Ok c =
    reward-row c.requires.under c.requires.callable c.build_space.auto.work c.build_space.ensures c.in-Ok.is c.write_closed.ensures

pub returns-in-Err : goal.returns-in-Err
returns-in-Err c =
    reward-refused c.requires.under c.requires.callable c.build_space.auto.work c.build_space.ensures c.in-Err.is
