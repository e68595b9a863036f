use mathlib.Core.Path.{refl}
use Rattle.plan.specs.Plan.{pair_label_at}
use Rattle.combine.proofs.label_at.Goals as goal

pub returns : goal.returns
unfolding pair_label_at
returns c =
    refl
