use Rattle.combination.proofs.SharedLaws.{shared-finishable, shared-out}
use Rattle.combination.proofs.combine_many.Goals as goal

pub finish-requires : goal.finish-requires
finish-requires c =
    shared-finishable c.shared_with-r.ensures c.requires.out-room

pub returns : goal.returns
returns c =
    shared-out _ _ _ _ c.shared_with-r.ensures c.finish.ensures
