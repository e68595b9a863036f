use Rattle.steps.specs.GivenLaws.{result-long, result-few}
use Rattle.planner.proofs.SumLaws.{value-fresh, action-stops, action-freeup, action-given}
use lib.Dec.{lit≤}
use borrow.Author.Rules.{rules}
use Rattle.planner.proofs.action_value.Goals as goal

pub variants_sum-a-requires-clause-action_task : goal.variants_sum-a-requires-clause-action_task
variants_sum-a-requires-clause-action_task c =
    c.requires.action_task

pub variants_sum-a-requires-clause-value_task : goal.variants_sum-a-requires-clause-value_task
variants_sum-a-requires-clause-value_task c =
    value-fresh c.requires.value_task 3072 (lit≤ tt)

pub returns-in_default : goal.returns-in_default
returns-in_default c =
    action-stops c.requires.action_task c.requires.value_task c.variants_sum-a.ensures c.in_default.is

pub overflow_mul-sum : goal.overflow_mul-sum
overflow_mul-sum c =
    let p = result-few (c.variants_sum-a.ensures.result _ c.in-Ok.is) in search rules

pub slice_bounds-sum-end : goal.slice_bounds-sum-end
slice_bounds-sum-end c =
    let p = result-few (c.variants_sum-a.ensures.result _ c.in-Ok.is) in search rules

pub slice_bounds-free_up-end : goal.slice_bounds-free_up-end
slice_bounds-free_up-end c =
    result-long (c.variants_sum-a.ensures.result _ c.in-Ok.is)

pub free_up-requires : goal.free_up-requires
free_up-requires c =
    action-freeup c.requires.action_task c.requires.value_task c.variants_sum-a.ensures c.in-Ok.is

pub returns : goal.returns
returns c =
    action-given c.requires.action_task c.requires.value_task c.variants_sum-a.ensures c.in-Ok.is c.free_up.ensures
