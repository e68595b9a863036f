use Rattle.drawing.proofs.DrawLaws.{reads-fresh, reads-any, reads_plain, reads-closed}
use Rattle.drawing.proofs.read_to.Goals as goal

pub read_reward-requires-clause-readable : goal.read_reward-requires-clause-readable
read_reward-requires-clause-readable c =
    search reads-fresh

pub read_reward-requires-clause-binding_value : goal.read_reward-requires-clause-binding_value
read_reward-requires-clause-binding_value c =
    search reads-any

pub returns-in-Plain : goal.returns-in-Plain
returns-in-Plain c =
    search reads_plain

pub returns-in-Closed : goal.returns-in-Closed
returns-in-Closed c =
    search reads-closed
