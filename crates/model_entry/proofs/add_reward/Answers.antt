use Rattle.model_entry.proofs.AddLaws.{reward-added}
use Rattle.model_entry.proofs.add_reward.Goals as goal

pub returns : goal.returns
returns c =
    search reward-added
