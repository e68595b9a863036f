use Rattle.apart.proofs.ResultLaws.{result-writable, result-many, result-closable, result-done}
use lib.Dec.{lit≤}
use Rattle.apart.proofs.write_result.Goals as goal

pub write-requires : goal.write-requires
write-requires c =
    result-writable c.requires 2048 2048 (lit≤ tt) (lit≤ tt)

pub returns-in_default : goal.returns-in_default
returns-in_default c =
    result-many c.requires c.write.ensures _ c.in_default.is

pub close_up-requires : goal.close_up-requires
close_up-requires c =
    result-closable c.requires c.write.ensures c.in-Some.is

pub returns : goal.returns
returns c =
    result-done c.requires c.write.ensures c.in-Some.is _ c.close_up.ensures
