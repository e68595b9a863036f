use Rattle.rename.proofs.MapSteps.{closing-start, closing-on}
use Rattle.rename.proofs.close_map.Goals as goal

pub loop-t-init : goal.loop-t-init
loop-t-init c =
    search closing-start

pub loop-t-preserved : goal.loop-t-preserved
loop-t-preserved c =
    search closing-on
