use Rattle.model.proofs.CheckLaws.{part-words}
use Rattle.weights.proofs.SumLaws.{add-folding, add-given}
use Prim.Native.Nat.{◌+◌}
use lib.ListN.{get_or}
use Rattle.weights.proofs.add_weight.Goals as goal

pub fold_shared-requires : goal.fold_shared-requires
fold_shared-requires c =
    add-folding c.requires (part-words c.args.listings.now (get_or c.args.table.now c.args.place 0) (get_or c.args.table.now (c.args.place + 1) 0))

pub returns : goal.returns
returns c =
    add-given c.requires (part-words c.args.listings.now (get_or c.args.table.now c.args.place 0) (get_or c.args.table.now (c.args.place + 1) 0)) c.fold_shared.ensures
