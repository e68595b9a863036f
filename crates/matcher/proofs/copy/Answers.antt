use Rattle.matcher.proofs.FailureLaws.{copied-start, copied_more, copied-end}
use Rattle.matcher.proofs.copy.Goals as goal

pub loop-i-init : goal.loop-i-init
loop-i-init c =
    copied-start _ _ _

pub loop-i-preserved : goal.loop-i-preserved
loop-i-preserved c =
    search copied_more

pub returns : goal.returns
returns c =
    search copied-end
