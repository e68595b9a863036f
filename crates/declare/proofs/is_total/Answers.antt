use Rattle.declare.proofs.TableLaws.{total-none, total-some}
use Rattle.declare.proofs.is_total.Goals as goal

pub returns-then-w-ne0 : goal.returns-then-w-ne0
returns-then-w-ne0 c =
    search total-some

pub returns-else-w-ne0 : goal.returns-else-w-ne0
returns-else-w-ne0 c =
    search total-none
