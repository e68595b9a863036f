use Rattle.apart.proofs.ClosingLaws.{enter-closable, enter-loadable, enter-formed}
use lib.Dec.{lit≤}
use Rattle.apart.proofs.enter.Goals as goal

pub close_map-requires : goal.close_map-requires
close_map-requires c =
    enter-closable c.requires _ (lit≤ tt)

pub load-requires : goal.load-requires
load-requires c =
    enter-loadable c.requires _ c.close_map.ensures

pub returns : goal.returns
returns c =
    enter-formed c.requires _ c.close_map.ensures c.load.ensures
