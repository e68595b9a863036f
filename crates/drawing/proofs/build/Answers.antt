use Rattle.drawing.proofs.PartLaws.{part_length, part-callable, part-built}
use Rattle.drawing.proofs.build.Goals as goal

pub slice_bounds-build_words-end : goal.slice_bounds-build_words-end
slice_bounds-build_words-end c =
    search part_length

pub build_words-requires : goal.build_words-requires
build_words-requires c =
    search part-callable

pub returns : goal.returns
returns c =
    search part-built
