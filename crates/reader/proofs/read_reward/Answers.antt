use Rattle.reader.proofs.GatherCode.{reward-reads}
use Rattle.reader.proofs.read_reward.Goals as goal

pub returns : goal.returns
returns c =
    search reward-reads
