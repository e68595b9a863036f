use Rattle.plan.proofs.StepLaws.{ends-leaves, ends-first, ends-second, ends-not}
use Rattle.plan.proofs.ends.Goals as goal

pub returns-then-b : goal.returns-then-b
returns-then-b c =
    search ends-leaves

pub returns-else-b : goal.returns-else-b
returns-else-b c =
    search ends-first

pub returns-then-b-2 : goal.returns-then-b-2
returns-then-b-2 c =
    search ends-second

pub returns-else-b-2 : goal.returns-else-b-2
returns-else-b-2 c =
    search ends-not
