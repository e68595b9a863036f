use Rattle.drawing.proofs.StackLaws.{test-is, test-always}
use Rattle.drawing.proofs.test_at.Goals as goal

pub returns-then-ops-k-eq1 : goal.returns-then-ops-k-eq1
returns-then-ops-k-eq1 c =
    search test-is

pub returns : goal.returns
returns c =
    search test-always
