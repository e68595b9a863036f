use Rattle.rename.proofs.MapSteps.{freeing-start, freeing-on}
use Rattle.rename.proofs.free_map.Goals as goal

pub loop-t-init : goal.loop-t-init
loop-t-init c =
    search freeing-start

pub loop-t-preserved : goal.loop-t-preserved
loop-t-preserved c =
    search freeing-on
