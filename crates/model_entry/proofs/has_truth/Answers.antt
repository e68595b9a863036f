use Rattle.model_entry.proofs.TruthLaws.{has-truth}
use Rattle.model_entry.proofs.has_truth.Goals as goal

pub returns : goal.returns
returns c =
    search has-truth
