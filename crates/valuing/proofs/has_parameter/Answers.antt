use Rattle.valuing.proofs.CheckLaws.{unmarked-start, unmarked-on, unmarked-no, unmarked-all}
use Rattle.valuing.proofs.has_parameter.Goals as goal

pub loop-k-init : goal.loop-k-init
loop-k-init c =
    unmarked-start _

pub returns-then-marks-k-ne0 : goal.returns-then-marks-k-ne0
returns-then-marks-k-ne0 c =
    search unmarked-no

pub loop-k-preserved : goal.loop-k-preserved
loop-k-preserved c =
    search unmarked-on

pub returns : goal.returns
returns c =
    search unmarked-all
