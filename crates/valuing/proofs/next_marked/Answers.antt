use Rattle.valuing.proofs.RisingLaws.{next_start, next-on}
use Rattle.valuing.proofs.next_marked.Goals as goal

pub loop-r-init : goal.loop-r-init
loop-r-init c =
    search next_start

pub loop-r-preserved : goal.loop-r-preserved
loop-r-preserved c =
    search next-on
