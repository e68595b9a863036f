use Rattle.plan.proofs.StepLaws.{label-end, label-lower}
use Rattle.plan.proofs.pair_label.Goals as goal

pub returns-then-ends : goal.returns-then-ends
returns-then-ends c =
    search label-end

pub returns-else-ends : goal.returns-else-ends
returns-else-ends c =
    search label-lower
