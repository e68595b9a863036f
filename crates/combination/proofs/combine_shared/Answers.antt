use Rattle.combination.proofs.SharedLaws.{shared-finishable, shared-out, few-many}
use Rattle.combination.proofs.combine_shared.Goals as goal

pub finish-requires : goal.finish-requires
finish-requires c =
    shared-finishable c.shared_with-r.ensures c.requires.out-room

pub returns-in_default : goal.returns-in_default
returns-in_default c =
    shared-out _ _ _ _ (few-many c.in_default.not-TooManyPairs c.shared_with-r.ensures) c.finish.ensures
