use Rattle.best_move.proofs.ActionLaws.{best-answered, task-given, task-placed, task-answerable}
use Rattle.best_move.proofs.best_move.Goals as goal

pub try_actions-r-requires-clause-laid : goal.try_actions-r-requires-clause-laid
try_actions-r-requires-clause-laid c =
    c.requires.laid

pub try_actions-r-requires-clause-value_given : goal.try_actions-r-requires-clause-value_given
try_actions-r-requires-clause-value_given c =
    task-given c.requires

pub try_actions-r-requires-clause-placed : goal.try_actions-r-requires-clause-placed
try_actions-r-requires-clause-placed c =
    task-placed c.requires

pub answered-requires : goal.answered-requires
answered-requires c =
    task-answerable c.requires c.try_actions-r.ensures

pub returns : goal.returns
returns c =
    best-answered _ _ _ _ _ _ c.try_actions-r.ensures c.answered.ensures
