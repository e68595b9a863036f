use Rattle.count_states.proofs.TableLaws.{seek-start, seek-up, seek-down, seek-end}
use Rattle.count_states.proofs.seek.Goals as goal

pub loop-low-init : goal.loop-low-init
loop-low-init c =
    search seek-start

pub loop-low-preserved-then-table-mid : goal.loop-low-preserved-then-table-mid
loop-low-preserved-then-table-mid c =
    search seek-up

pub loop-low-preserved : goal.loop-low-preserved
loop-low-preserved c =
    search seek-down

pub returns : goal.returns
returns c =
    search seek-end
