use lib.Dec.{lit≤}
use Rattle.cut.proofs.WritingLaws.{left-row, left-place, left-prunable, left-done}
use Rattle.cut.proofs.write_left.Goals as goal

pub edge_place-requires : goal.edge_place-requires
edge_place-requires c =
    left-row c.requires

pub bounds-edges-edge_place : goal.bounds-edges-edge_place
bounds-edges-edge_place c =
    left-place c.requires c.args.side c.edge_place.ensures 2048 (lit≤ tt)

pub prune-requires : goal.prune-requires
prune-requires c =
    left-prunable c.requires c.args.side c.edge_place.ensures 2048 (lit≤ tt)

pub returns : goal.returns
returns c =
    left-done c.requires c.args.side c.edge_place.ensures 2048 (lit≤ tt) c.prune.ensures
