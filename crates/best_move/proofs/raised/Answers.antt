use Rattle.best_move.proofs.LeadLaws.{raised-new, raised-old}
use Rattle.best_move.proofs.raised.Goals as goal

pub returns-then-l-b : goal.returns-then-l-b
returns-then-l-b c =
    search raised-new

pub returns : goal.returns
returns c =
    search raised-old
