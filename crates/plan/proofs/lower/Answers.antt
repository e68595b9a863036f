use Rattle.plan.proofs.StepLaws.{lower-first, lower-second}
use Rattle.plan.proofs.lower.Goals as goal

pub returns-then-before : goal.returns-then-before
returns-then-before c =
    search lower-second

pub returns-else-before : goal.returns-else-before
returns-else-before c =
    search lower-first
