use Rattle.matcher.proofs.FindLaws.{knowing-start, knowing-not, knowing-next}
use Rattle.matcher.proofs.all_known.Goals as goal

pub loop-k-init : goal.loop-k-init
loop-k-init c =
    knowing-start _ _ _

pub returns-then-tab-t : goal.returns-then-tab-t
returns-then-tab-t c =
    search knowing-not

pub loop-k-preserved : goal.loop-k-preserved
loop-k-preserved c =
    search knowing-next
