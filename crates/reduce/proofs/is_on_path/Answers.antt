use Rattle.reduce.proofs.EdgeLaws.{path-at, unmarked-off, this-side}
use Rattle.reduce.proofs.is_on_path.Goals as goal

pub side_of-requires-clause-at : goal.side_of-requires-clause-at
side_of-requires-clause-at c =
    search path-at

pub returns-then-wins-p-ne0 : goal.returns-then-wins-p-ne0
returns-then-wins-p-ne0 c =
    search this-side

pub returns-else-wins-p-ne0 : goal.returns-else-wins-p-ne0
returns-else-wins-p-ne0 c =
    search unmarked-off
