use Rattle.matcher.proofs.OrderLaws.{sharing-start, sharing-hit, sharing-next, sharing-end}
use Rattle.matcher.proofs.shares.Goals as goal

pub loop-k-init : goal.loop-k-init
loop-k-init c =
    sharing-start _ _

pub returns-then-is_seen : goal.returns-then-is_seen
returns-then-is_seen c =
    search sharing-hit

pub loop-k-preserved : goal.loop-k-preserved
loop-k-preserved c =
    search sharing-next

pub returns : goal.returns
returns c =
    search sharing-end
