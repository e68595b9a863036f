use mathlib.Core.Path.{refl}
use Rattle.plan.specs.Plan.{first_at}
use Rattle.combine.proofs.first_at.Goals as goal

pub returns : goal.returns
unfolding first_at
returns c =
    refl
