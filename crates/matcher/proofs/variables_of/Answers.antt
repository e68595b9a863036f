use Rattle.matcher.proofs.MaskLaws.{variables-start, variables-next}
use Rattle.matcher.proofs.variables_of.Goals as goal

pub loop-k-init : goal.loop-k-init
loop-k-init c =
    variables-start _

pub loop-k-preserved : goal.loop-k-preserved
loop-k-preserved c =
    variables-next c.loop-k.invariant c.place.ensures c.one-mask.ensures
