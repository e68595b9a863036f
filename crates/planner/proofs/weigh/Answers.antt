use Rattle.model.proofs.CheckLaws.{part-words}
use Rattle.planner.proofs.VariantLaws.{weigh-scalable, weigh-given}
use Prim.Native.Nat.{◌+◌}
use lib.ListN.{get_or}
use Rattle.planner.proofs.weigh.Goals as goal

pub times_leaf-requires : goal.times_leaf-requires
times_leaf-requires c =
    weigh-scalable c.requires (part-words c.args.listings.now (get_or c.args.table.now c.args.place 0) (get_or c.args.table.now (c.args.place + 1) 0))

pub returns : goal.returns
returns c =
    weigh-given c.requires (part-words c.args.listings.now (get_or c.args.table.now c.args.place 0) (get_or c.args.table.now (c.args.place + 1) 0)) c.times_leaf.ensures
