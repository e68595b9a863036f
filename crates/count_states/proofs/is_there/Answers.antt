use Rattle.count_states.proofs.TableLaws.{there-past, there-read}
use Rattle.count_states.proofs.is_there.Goals as goal

pub returns-then-at-count : goal.returns-then-at-count
returns-then-at-count c =
    search there-read

pub returns-else-at-count : goal.returns-else-at-count
returns-else-at-count c =
    search there-past
