use Rattle.reader.proofs.PartCode.{front-counts, front-part, kinds-back}
use Rattle.reader.proofs.number_kinds.Goals as goal

pub slice_bounds-number_variables-end-2 : goal.slice_bounds-number_variables-end-2
slice_bounds-number_variables-end-2 c =
    front-counts c.args.variables.now c.requires.variables.words

pub number_variables-maximums-requires-clause-part : goal.number_variables-maximums-requires-clause-part
number_variables-maximums-requires-clause-part c =
    front-part c.args.variables.now c.requires.variables.words c.requires.variables.variables-fit

pub returns : goal.returns
returns c =
    search kinds-back
