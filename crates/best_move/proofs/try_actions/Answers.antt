use Rattle.best_move.proofs.ActionLaws.{value-next, laid_table, laid-task, acting-start, acting-on, acting-stops, acting-end}
use mathlib.Core.Path.{refl, ◌∙◌}
use Rattle.std.proofs.lemmas.Result.{err_from_is_err_and}
use Rattle.best_move.proofs.try_actions.Goals as goal

pub first_lead-l-requires : goal.first_lead-l-requires
first_lead-l-requires c =
    laid_table c.requires.laid

pub loop-a-init : goal.loop-a-init
loop-a-init c =
    (refl, acting-start c.requires.laid _ _ c.first_lead-l.ensures)

pub try_action-requires-clause-action_task : goal.try_action-requires-clause-action_task
try_action-requires-clause-action_task c =
    laid-task c.requires.laid c.loop-a-test.true

pub try_action-requires-clause-value_given : goal.try_action-requires-clause-value_given
try_action-requires-clause-value_given c =
    value-next c.requires.value_given c.loop-a.invariant.0

pub try_action-requires-clause-placed : goal.try_action-requires-clause-placed
try_action-requires-clause-placed c =
    c.requires.placed

pub try_action-requires-clause-leading : goal.try_action-requires-clause-leading
try_action-requires-clause-leading c =
    c.loop-a.invariant.1.leading

pub returns-in_err-l : goal.returns-in_err-l
returns-in_err-l c =
    let p = err_from_is_err_and c.from_residual.result c.from_residual.ensures.1 in
    rw (p.1, p.2, ← c.in_err-l.was) (acting-stops c.requires.laid c.loop-a.invariant.1 c.try_action.ensures c.loop-a-test.true c.in_err-l.was)

pub loop-a-preserved : goal.loop-a-preserved
loop-a-preserved c = (
  c.try_action.auto.work ∙ c.loop-a.invariant.0,
  acting-on c.requires.laid c.loop-a.invariant.1 c.try_action.ensures c.loop-a-test.true c.in_ok-l.was,
)

pub returns : goal.returns
returns c =
    acting-end c.requires.laid c.loop-a.invariant.1 c.loop-a-test.false
