use Rattle.lines.proofs.PlaceLaws.{varying-start, varying-on, varied-no, varied-all}
use Rattle.lines.proofs.each_varied.Goals as goal

pub loop-a-init : goal.loop-a-init
loop-a-init c =
    varying-start _ _

pub returns-then-table-a-eq0 : goal.returns-then-table-a-eq0
returns-then-table-a-eq0 c =
    search varied-no

pub loop-a-preserved : goal.loop-a-preserved
loop-a-preserved c =
    search varying-on

pub returns : goal.returns
returns c =
    search varied-all
