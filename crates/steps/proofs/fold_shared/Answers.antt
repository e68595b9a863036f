use Rattle.steps.specs.GivenLaws.{folding-long, fold-stops, fold-there, fold-room, fold-given}
use Rattle.steps.proofs.fold_shared.Goals as goal

pub slice_bounds-shared-end-2 : goal.slice_bounds-shared-end-2
slice_bounds-shared-end-2 c =
    folding-long c.requires

pub returns-in_default : goal.returns-in_default
returns-in_default c =
    fold-stops c.shared-r.ensures c.in_default.is

pub copy-requires-clause-count_in_bounds : goal.copy-requires-clause-count_in_bounds
copy-requires-clause-count_in_bounds c =
    fold-there c.shared-r.ensures c.in-Ok.is

pub copy-requires-clause-count_in_bounds_2 : goal.copy-requires-clause-count_in_bounds_2
copy-requires-clause-count_in_bounds_2 c =
    fold-room c.shared-r.ensures c.in-Ok.is c.requires

pub returns : goal.returns
returns c =
    fold-given c.shared-r.ensures c.in-Ok.is _ c.copy.ensures
