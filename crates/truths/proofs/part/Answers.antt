use Rattle.truths.proofs.LentLaws.{part_none, part-rest, part-some}
use Rattle.truths.proofs.part.Goals as goal

pub returns-then-first-n : goal.returns-then-first-n
returns-then-first-n c =
    search part_none

pub returns-then-count-n : goal.returns-then-count-n
returns-then-count-n c =
    search part-rest

pub returns : goal.returns
returns c =
    search part-some
