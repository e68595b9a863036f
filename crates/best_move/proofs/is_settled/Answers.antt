use Rattle.best_move.proofs.LeadLaws.{settled-not, settled-test}
use Rattle.best_move.proofs.is_settled.Goals as goal

pub returns-then-few : goal.returns-then-few
returns-then-few c =
    search settled-test

pub returns-else-few : goal.returns-else-few
returns-else-few c =
    search settled-not
