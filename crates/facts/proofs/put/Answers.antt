use Rattle.facts.proofs.FactLaws.{put-room, put-done}
use Rattle.facts.proofs.put.Goals as goal

pub bounds-state-bucket-2 : goal.bounds-state-bucket-2
bounds-state-bucket-2 c =
    search put-room

pub returns : goal.returns
returns c =
    search put-done
