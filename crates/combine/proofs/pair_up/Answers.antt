use Rattle.combine.specs.PairedLaws.{full-touched, out-high, out-many, out-pairs, to-sound, to-touched}
use Rattle.combine.proofs.pair_up.Goals as goal

pub clear-requires : goal.clear-requires
clear-requires c =
    search full-touched

pub returns-in_default : goal.returns-in_default
returns-in_default c =
    search out-many

pub clear-requires-2 : goal.clear-requires-2
clear-requires-2 c =
    search to-touched

pub overflow-requires : goal.overflow-requires
overflow-requires c =
    search to-sound

pub returns-then-overflow : goal.returns-then-overflow
returns-then-overflow c =
    out-high c.requires c.walk.ensures _ _ c.in-Some.is c.clear-2.ensures.clean c.overflow.ensures
    c.if-overflow.true

pub returns-else-overflow : goal.returns-else-overflow
returns-else-overflow c =
    out-pairs c.requires c.walk.ensures _ _ c.in-Some.is c.clear-2.ensures.clean c.overflow.ensures
    c.if-overflow.false
