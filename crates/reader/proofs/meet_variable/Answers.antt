use Rattle.reader.proofs.PartCode.{front-counts, front-part, variable-back}
use Rattle.reader.proofs.meet_variable.Goals as goal

pub slice_bounds-meet-end-2 : goal.slice_bounds-meet-end-2
slice_bounds-meet-end-2 c =
    front-counts c.args.variables.now c.requires.words

pub meet-count-requires : goal.meet-count-requires
meet-count-requires c =
    front-part c.args.variables.now c.requires.words c.requires.variables-fit

pub returns : goal.returns
returns c =
    search variable-back
