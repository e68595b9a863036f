use Rattle.drawing.proofs.PartLaws.{part_length, part-callable, part-under, part-closed}
use Rattle.drawing.proofs.build_closed.Goals as goal

pub slice_bounds-build_closed_words-end : goal.slice_bounds-build_closed_words-end
slice_bounds-build_closed_words-end c =
    search part_length

pub build_closed_words-requires-clause-under : goal.build_closed_words-requires-clause-under
build_closed_words-requires-clause-under c =
    search part-under

pub build_closed_words-requires-clause-callable : goal.build_closed_words-requires-clause-callable
build_closed_words-requires-clause-callable c =
    search part-callable

pub returns : goal.returns
returns c =
    search part-closed
