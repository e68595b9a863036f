use lib.Dec.{lit≤}
use Rattle.pruning.proofs.PruneLaws.{prune-room, prune-keepable, prune-writable, prune-many, prune-closable, prune-done}
use Rattle.pruning.proofs.prune.Goals as goal

pub keep-requires : goal.keep-requires
keep-requires c =
    search prune-keepable

pub returns-in_default : goal.returns-in_default
returns-in_default c =
    prune-room c.keep.ensures c.in_default.is

pub write-requires : goal.write-requires
write-requires c =
    prune-writable c.requires c.keep.ensures c.in-Some.is c.keep.auto.work 2048 2048 (lit≤ tt) (lit≤ tt)

pub returns-in_default-write : goal.returns-in_default-write
returns-in_default-write c =
    prune-many c.requires c.keep.ensures c.in-Some.is c.keep.auto.work c.write.ensures c.in_default-write.is

pub close_up-requires : goal.close_up-requires
close_up-requires c =
    prune-closable c.requires c.keep.ensures c.in-Some.is c.keep.auto.work c.write.ensures c.in-Some-write.is

pub returns : goal.returns
returns c =
    prune-done c.requires c.keep.ensures c.in-Some.is c.keep.auto.work c.write.ensures c.in-Some-write.is c.close_up.ensures
