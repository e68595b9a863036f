use Rattle.plan.specs.Plan.{pair_label_at, first_at, second_at}
use Rattle.combine.proofs.LeafLaws.{exceeds-branch, exceeds-end, values-at}
use Rattle.combine.proofs.too_high_at.Goals as goal

pub returns-else-plan-k : goal.returns-else-plan-k
unfolding pair_label_at
returns-else-plan-k c =
    search exceeds-branch

pub too_high-requires : goal.too_high-requires
unfolding pair_label_at first_at second_at
too_high-requires c =
    search values-at

pub returns-then-plan-k : goal.returns-then-plan-k
unfolding pair_label_at first_at second_at
returns-then-plan-k c =
    search exceeds-end
