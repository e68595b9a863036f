use Rattle.valuing.proofs.FactLaws.{scan-start, scan-hit, scan-on, scan-none}
use Rattle.valuing.proofs.scanned.Goals as goal

pub loop-i-init : goal.loop-i-init
loop-i-init c =
    search scan-start

pub returns-then-row_says : goal.returns-then-row_says
returns-then-row_says c =
    search scan-hit

pub loop-i-preserved : goal.loop-i-preserved
loop-i-preserved c =
    search scan-on

pub returns : goal.returns
returns c =
    search scan-none
