use Rattle.lines.proofs.PlaceLaws.{marking-start, marking-on, marked-no, marked_all}
use Rattle.lines.proofs.each_placed.Goals as goal

pub loop-c-init : goal.loop-c-init
loop-c-init c =
    marking-start _ _

pub returns-then-state-c-ne1 : goal.returns-then-state-c-ne1
returns-then-state-c-ne1 c =
    search marked-no

pub loop-c-preserved : goal.loop-c-preserved
loop-c-preserved c =
    search marking-on

pub returns : goal.returns
returns c =
    search marked_all
