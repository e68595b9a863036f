use Rattle.matcher.proofs.FindLaws.{find-hit, find-up, find-down}
use Rattle.matcher.proofs.find.Goals as goal

pub returns-then-x-y : goal.returns-then-x-y
returns-then-x-y c =
    search find-hit

pub loop-low-preserved-then-x-y-2 : goal.loop-low-preserved-then-x-y-2
loop-low-preserved-then-x-y-2 c =
    search find-up

pub loop-low-preserved : goal.loop-low-preserved
loop-low-preserved c =
    search find-down
