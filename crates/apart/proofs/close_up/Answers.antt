use Rattle.apart.proofs.ClosingLaws.{close-closable, close-renamable, close-written}
use lib.Dec.{lit≤}
use Rattle.apart.proofs.close_up.Goals as goal

pub close_map-requires : goal.close_map-requires
close_map-requires c =
    close-closable c.requires c.used.ensures _ (lit≤ tt)

pub rename-requires : goal.rename-requires
rename-requires c =
    close-renamable c.requires c.used.ensures _ c.close_map.ensures

pub returns : goal.returns
returns c =
    close-written c.requires c.used.ensures _ c.close_map.ensures c.rename.ensures
