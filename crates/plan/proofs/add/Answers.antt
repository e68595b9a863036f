use Rattle.plan.proofs.StepLaws.{add_none, add-answer}
use Rattle.plan.proofs.add.Goals as goal

pub returns-then-count-limit : goal.returns-then-count-limit
returns-then-count-limit c =
    search add_none

pub returns : goal.returns
returns c =
    search add-answer
