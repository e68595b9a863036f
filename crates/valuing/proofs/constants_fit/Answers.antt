use Rattle.valuing.proofs.CheckLaws.{placing-start, placing-on, constants-no, constants-all}
use Rattle.valuing.proofs.constants_fit.Goals as goal

pub loop-c-init : goal.loop-c-init
loop-c-init c =
    placing-start _ _

pub returns-then-constant-n : goal.returns-then-constant-n
returns-then-constant-n c =
    search constants-no

pub loop-c-preserved : goal.loop-c-preserved
loop-c-preserved c =
    search placing-on

pub returns : goal.returns
returns c =
    search constants-all
