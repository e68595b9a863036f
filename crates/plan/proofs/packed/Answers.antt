use Rattle.plan.proofs.StepLaws.{packed-to}
use Rattle.plan.proofs.packed.Goals as goal

pub returns : goal.returns
returns c =
    packed-to _ _ c.requires
