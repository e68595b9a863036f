use Rattle.count_states.proofs.RowLaws.{fill_start, fill_on, fill_end}
use Rattle.count_states.proofs.fill_places.Goals as goal

pub loop-j-init : goal.loop-j-init
loop-j-init c =
    search fill_start

pub loop-j-preserved : goal.loop-j-preserved
loop-j-preserved c =
    search fill_on

pub returns : goal.returns
returns c =
    search fill_end
