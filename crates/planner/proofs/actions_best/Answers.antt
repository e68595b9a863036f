use Rattle.planner.proofs.SumLaws.{value-next, trying_start, trying-task, trying-begins, trying-stops, trying-on, trying-end}
use mathlib.Core.Path.{refl, ◌∙◌}
use Rattle.planner.proofs.actions_best.Goals as goal

pub begin-n-requires : goal.begin-n-requires
begin-n-requires c =
    c.requires.value_task.out-room

pub loop-a-init : goal.loop-a-init
loop-a-init c =
    (refl, refl, trying_start c.requires.laid c.requires.value_task c.begin-n.ensures)

pub try_action-r-requires-clause-action_task : goal.try_action-r-requires-clause-action_task
try_action-r-requires-clause-action_task c =
    trying-task c.requires.laid c.requires.value_task c.loop-a.invariant.2 c.loop-a-test.true

pub try_action-r-requires-clause-value_task : goal.try_action-r-requires-clause-value_task
try_action-r-requires-clause-value_task c =
    value-next c.requires.value_task (c.loop-a.invariant.0 ∙ c.begin-n.auto.out) c.loop-a.invariant.1

pub try_action-r-requires-clause-buffer_listing : goal.try_action-r-requires-clause-buffer_listing
try_action-r-requires-clause-buffer_listing c =
    trying-begins c.requires.laid c.requires.value_task c.loop-a.invariant.2 c.loop-a-test.true

pub returns-in_default : goal.returns-in_default
returns-in_default c =
    trying-stops c.requires.laid c.requires.value_task c.loop-a.invariant.2 c.loop-a-test.true c.try_action-r.ensures c.in_default.is

pub loop-a-preserved : goal.loop-a-preserved
loop-a-preserved c = (
  c.try_action-r.auto.best ∙ c.loop-a.invariant.0,
  c.try_action-r.auto.work ∙ c.loop-a.invariant.1,
  trying-on c.requires.laid c.requires.value_task c.loop-a.invariant.2 c.loop-a-test.true c.try_action-r.ensures c.in-Ok.is,
)

pub returns : goal.returns
returns c =
    trying-end c.requires.laid c.requires.value_task c.loop-a.invariant.2 c.loop-a-test.false
