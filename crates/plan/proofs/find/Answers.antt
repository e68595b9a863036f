use Rattle.plan.proofs.StepLaws.{chain-start, chain-hit, chain-on, chain-less, chain-none}
use Rattle.plan.proofs.find.Goals as goal

pub loop-at-init : goal.loop-at-init
loop-at-init c =
    search chain-start

pub returns-then-plan-i : goal.returns-then-plan-i
returns-then-plan-i c =
    search chain-hit

pub loop-at-smaller : goal.loop-at-smaller
loop-at-smaller c =
    search chain-less

pub loop-at-preserved : goal.loop-at-preserved
loop-at-preserved c =
    search chain-on

pub returns : goal.returns
returns c =
    search chain-none
