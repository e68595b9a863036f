use Rattle.best_move.proofs.LeadLaws.{first-none, first_some}
use Rattle.best_move.proofs.first_lead.Goals as goal

pub returns-then-actions-ne0 : goal.returns-then-actions-ne0
returns-then-actions-ne0 c =
    search first_some

pub returns-else-actions-ne0 : goal.returns-else-actions-ne0
returns-else-actions-ne0 c =
    search first-none
