use Rattle.eliminate.proofs.TruthLaws.{seek_hit, seek-end}
use Rattle.eliminate.proofs.said.Goals as goal

pub returns-then-says : goal.returns-then-says
returns-then-says c =
    search seek_hit

pub returns : goal.returns
returns c =
    search seek-end
