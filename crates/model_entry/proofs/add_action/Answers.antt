use Rattle.model_entry.proofs.AddLaws.{second-room, action-added}
use Rattle.model_entry.proofs.add_action.Goals as goal

pub bounds-table-a-2 : goal.bounds-table-a-2
bounds-table-a-2 c =
    search second-room

pub returns : goal.returns
returns c =
    search action-added
