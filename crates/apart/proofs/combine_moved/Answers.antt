use Rattle.apart.proofs.ApartLaws.{moved-first, moved-full, moved-full-2, moved-joinable, moved-done}
use lib.Dec.{lit≤}
use Rattle.apart.proofs.combine_moved.Goals as goal

pub enter-requires : goal.enter-requires
enter-requires c =
    moved-first c.requires 2048 2048 1024 (lit≤ tt) (lit≤ tt) (lit≤ tt)

pub returns-in_default : goal.returns-in_default
returns-in_default c =
    moved-full c.requires c.enter.ensures _ c.in_default.is

pub returns-in_default-enter : goal.returns-in_default-enter
returns-in_default-enter c =
    moved-full-2 c.requires c.enter.ensures c.in-Some.is c.enter-2.ensures _ c.in_default-enter.is

pub join-requires : goal.join-requires
join-requires c =
    moved-joinable c.requires c.enter.ensures c.in-Some.is c.enter-2.ensures c.in-Some-enter.is

pub returns : goal.returns
returns c =
    moved-done c.requires c.enter.ensures c.in-Some.is c.enter-2.ensures c.in-Some-enter.is c.join.ensures
