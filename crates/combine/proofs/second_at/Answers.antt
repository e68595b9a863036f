use mathlib.Core.Path.{refl}
use Rattle.plan.specs.Plan.{second_at}
use Rattle.combine.proofs.second_at.Goals as goal

pub returns : goal.returns
unfolding second_at
returns c =
    refl
