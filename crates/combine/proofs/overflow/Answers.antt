use Rattle.combine.proofs.LeafLaws.{overflow-hit, overflow-on, overflow-start}
use Rattle.combine.proofs.overflow.Goals as goal

pub loop-k-init : goal.loop-k-init
loop-k-init c =
    overflow-start _ _

pub returns-then-too_high_at : goal.returns-then-too_high_at
returns-then-too_high_at c =
    search overflow-hit

pub loop-k-preserved : goal.loop-k-preserved
loop-k-preserved c =
    search overflow-on
