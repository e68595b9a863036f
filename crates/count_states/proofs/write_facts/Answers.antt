use Rattle.count_states.proofs.RowLaws.{facts-start, fact-room, facts-on, facts-end}
use Rattle.count_states.proofs.write_facts.Goals as goal

pub loop-t-init : goal.loop-t-init
loop-t-init c =
    search facts-start

pub write_fact-requires : goal.write_fact-requires
write_fact-requires c =
    search fact-room

pub loop-t-preserved : goal.loop-t-preserved
loop-t-preserved c =
    search facts-on

pub returns : goal.returns
returns c =
    search facts-end
