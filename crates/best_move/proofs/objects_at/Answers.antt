use Rattle.best_move.proofs.DigitLaws.{dividing-start, dividing-on, dividing-end}
use Rattle.best_move.proofs.objects_at.Goals as goal

pub loop-k-init : goal.loop-k-init
loop-k-init c =
    dividing-start _ _ _ _

pub loop-k-preserved : goal.loop-k-preserved
loop-k-preserved c =
    search dividing-on

pub returns : goal.returns
returns c =
    search dividing-end
