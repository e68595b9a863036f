use Rattle.count_states.proofs.RowLaws.{fact-written}
use Rattle.count_states.proofs.write_fact.Goals as goal

pub returns : goal.returns
returns c =
    search fact-written
