use Rattle.write.proofs.WriteLaws.{copy_start, copy-on, copy-end}
use Rattle.write.proofs.copy.Goals as goal

pub loop-i-init : goal.loop-i-init
loop-i-init c =
    search copy_start

pub loop-i-preserved : goal.loop-i-preserved
loop-i-preserved c =
    search copy-on

pub returns : goal.returns
returns c =
    search copy-end
