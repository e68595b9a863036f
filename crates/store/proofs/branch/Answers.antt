use Rattle.store.proofs.SpaceLaws.{branch-formed, branch_same}
use Rattle.store.proofs.branch.Goals as goal

pub returns-then-high-low : goal.returns-then-high-low
returns-then-high-low c =
    search branch_same

pub returns : goal.returns
returns c =
    search branch-formed
