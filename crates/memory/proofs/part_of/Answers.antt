use Rattle.memory.proofs.StoreLaws.{part-model, part-run}
use Rattle.memory.proofs.part_of.Goals as goal

pub returns-then-word-eq0 : goal.returns-then-word-eq0
returns-then-word-eq0 c =
    search part-model

pub returns : goal.returns
returns c =
    search part-run
