use Rattle.valuing.proofs.CheckLaws.{both-room, both-few}
use Rattle.valuing.proofs.is_small.Goals as goal

pub overflow_add-count_variables : goal.overflow_add-count_variables
overflow_add-count_variables c =
    search both-room

pub returns : goal.returns
returns c =
    search both-few
