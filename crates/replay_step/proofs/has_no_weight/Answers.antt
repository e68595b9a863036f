use Rattle.model.proofs.CheckLaws.{part-words}
use Rattle.replay_step.proofs.WeightLaws.{weighing-part, weightless-part}
use Prim.Native.Nat.{◌+◌}
use lib.ListN.{get_or}
use Rattle.replay_step.proofs.has_no_weight.Goals as goal

pub is_weightless-requires : goal.is_weightless-requires
is_weightless-requires c =
    weighing-part c.requires (part-words c.args.listings.now (get_or c.args.table.now c.args.place 0) (get_or c.args.table.now (c.args.place + 1) 0))

pub returns : goal.returns
returns c =
    weightless-part _ _ _ _ _ (part-words c.args.listings.now (get_or c.args.table.now c.args.place 0) (get_or c.args.table.now (c.args.place + 1) 0)) c.is_weightless.ensures
