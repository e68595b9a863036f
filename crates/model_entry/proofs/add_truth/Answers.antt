use Rattle.model_entry.proofs.TruthLaws.{second-room, truth-added}
use Rattle.model_entry.proofs.add_truth.Goals as goal

pub bounds-table-at-2 : goal.bounds-table-at-2
bounds-table-at-2 c =
    search second-room

pub returns : goal.returns
returns c =
    search truth-added
