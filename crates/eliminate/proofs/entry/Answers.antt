use native.Mathlib.Omega.{arith}
use Rattle.eliminate.proofs.BestLaws.{enter-place, enter-room, enter-is}
use Rattle.eliminate.proofs.entry.Goals as goal

pub place-requires : goal.place-requires
place-requires c =
    search enter-place

pub overflow_add-result : goal.overflow_add-result
overflow_add-result c =
    omega (arith, enter-room c.requires c.place.ensures)

pub offset_bounds-space-start : goal.offset_bounds-space-start
offset_bounds-space-start c =
    omega (arith, enter-room c.requires c.place.ensures)

pub bounds-space-start : goal.bounds-space-start
bounds-space-start c =
    enter-room c.requires c.place.ensures

pub returns : goal.returns
returns c =
    enter-is _ _ _ _ _ c.place.ensures
