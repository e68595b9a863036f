use Rattle.reduce.proofs.TableLaws.{rank-low, rank-high, rank-unused, rank-used}
use Rattle.reduce.proofs.rank_after.Goals as goal

pub returns-then-t : goal.returns-then-t
returns-then-t c =
    search rank-low

pub returns-then-t-2 : goal.returns-then-t-2
returns-then-t-2 c =
    search rank-high

pub returns-then-marks-t-eq0 : goal.returns-then-marks-t-eq0
returns-then-marks-t-eq0 c =
    search rank-unused

pub returns : goal.returns
returns c =
    search rank-used
