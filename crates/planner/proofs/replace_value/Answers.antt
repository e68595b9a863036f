use Rattle.steps.specs.GivenLaws.{result-long, result-few}
use Rattle.planner.proofs.ValueLaws.{standing-long, standing-task, reward-task, calls-stop, calls-stop-2, calls-operands, calls-wrote}
use lib.Dec.{lit≤}
use mathlib.Core.Path.{◌∙◌}
use borrow.Author.Rules.{rules}
use Rattle.planner.proofs.replace_value.Goals as goal

pub slice_bounds-actions_best-end-2 : goal.slice_bounds-actions_best-end-2
slice_bounds-actions_best-end-2 c =
    standing-long c.requires.laid c.requires.standing 0

pub actions_best-a-requires-clause-laid : goal.actions_best-a-requires-clause-laid
actions_best-a-requires-clause-laid c =
    c.requires.laid

pub actions_best-a-requires-clause-value_task : goal.actions_best-a-requires-clause-value_task
actions_best-a-requires-clause-value_task c =
    standing-task c.requires.laid c.requires.standing 0 3072 (lit≤ tt)

pub returns-in_default : goal.returns-in_default
returns-in_default c =
    calls-stop c.requires.laid c.requires.standing _ c.actions_best-a.ensures c.in_default.is

pub scale_reward-b-requires : goal.scale_reward-b-requires
scale_reward-b-requires c =
    reward-task c.requires.laid c.requires.standing _ 3072 (lit≤ tt) c.requires.scale_le_highest_value c.actions_best-a.auto.work

pub returns-in_default-b : goal.returns-in_default-b
returns-in_default-b c =
    calls-stop-2 c.requires.laid c.requires.standing _ c.actions_best-a.ensures c.in-Ok.is c.scale_reward-b.ensures
    c.in_default-b.is

pub overflow_mul-best : goal.overflow_mul-best
overflow_mul-best c =
    let p = result-few (c.actions_best-a.ensures.result _ c.in-Ok.is) in search rules

pub slice_bounds-best-end : goal.slice_bounds-best-end
slice_bounds-best-end c =
    let p = result-few (c.actions_best-a.ensures.result _ c.in-Ok.is) in search rules

pub slice_bounds-sum_apart-end : goal.slice_bounds-sum_apart-end
slice_bounds-sum_apart-end c =
    result-long (c.actions_best-a.ensures.result _ c.in-Ok.is)

pub overflow_mul-reward : goal.overflow_mul-reward
overflow_mul-reward c =
    let p = result-few (c.scale_reward-b.ensures.result _ c.in-Ok-b.is) in search rules

pub slice_bounds-reward-end : goal.slice_bounds-reward-end
slice_bounds-reward-end c =
    let p = result-few (c.scale_reward-b.ensures.result _ c.in-Ok-b.is) in search rules

pub slice_bounds-sum_apart-end-2 : goal.slice_bounds-sum_apart-end-2
slice_bounds-sum_apart-end-2 c =
    result-long (c.scale_reward-b.ensures.result _ c.in-Ok-b.is)

pub sum_apart-requires : goal.sum_apart-requires
sum_apart-requires c =
    calls-operands c.requires.laid c.requires.standing _ c.actions_best-a.ensures c.in-Ok.is c.scale_reward-b.ensures c.in-Ok-b.is
    (c.scale_reward-b.auto.work ∙ c.actions_best-a.auto.work)

pub returns : goal.returns
returns c =
    calls-wrote c.requires.laid c.requires.standing _ c.actions_best-a.ensures c.in-Ok.is c.scale_reward-b.ensures c.in-Ok-b.is
    c.sum_apart.ensures
