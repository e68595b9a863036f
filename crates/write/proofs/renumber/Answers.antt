use Rattle.write.proofs.WriteLaws.{renumber-leaf, renumber-high-fits, renumber-high, renumber-low-fits, renumber-low, renumber-high-marked, renumber-low-marked, renumber-branch}
use Rattle.write.proofs.renumber.Goals as goal

pub returns-then-l : goal.returns-then-l
returns-then-l c =
    search renumber-leaf

pub offset_bounds-marks-t : goal.offset_bounds-marks-t
offset_bounds-marks-t c =
    search renumber-high-fits

pub bounds-marks-t : goal.bounds-marks-t
bounds-marks-t c =
    search renumber-high

pub offset_bounds-marks-f : goal.offset_bounds-marks-f
offset_bounds-marks-f c =
    search renumber-low-fits

pub bounds-marks-f : goal.bounds-marks-f
bounds-marks-f c =
    search renumber-low

pub overflow_sub-result : goal.overflow_sub-result
overflow_sub-result c =
    search renumber-high-marked

pub overflow_sub-result-2 : goal.overflow_sub-result-2
overflow_sub-result-2 c =
    search renumber-low-marked

pub returns : goal.returns
returns c =
    search renumber-branch
