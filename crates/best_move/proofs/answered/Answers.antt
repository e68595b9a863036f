use Rattle.best_move.proofs.ActionLaws.{answer-tupled, answer-move, answer-refused}
use Rattle.best_move.proofs.answered.Goals as goal

pub move_of-requires : goal.move_of-requires
move_of-requires c =
    answer-tupled c.requires c.in-Ok.is

pub returns-in-Ok : goal.returns-in-Ok
returns-in-Ok c =
    answer-move _ c.in-Ok.is c.move_of.ensures

pub returns-in-Err : goal.returns-in-Err
returns-in-Err c =
    answer-refused _ c.in-Err.is
