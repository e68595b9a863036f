use Rattle.steps.specs.GivenLaws.{result-long, result-few}
use Rattle.planner.proofs.SumLaws.{value-fresh, tried-is}
use Rattle.planner.proofs.FollowLaws.{folded-refused, folded-able, folded-given}
use lib.Dec.{lit≤}
use Rattle.apply.specs.declared.Operation.TheVariants.{Max}
use Rattle.apply.specs.declared.Names.TheVariants.{Shared}
use borrow.Author.Rules.{rules}
use Rattle.planner.proofs.try_action.Goals as goal

pub action_value-a-requires-clause-action_task : goal.action_value-a-requires-clause-action_task
action_value-a-requires-clause-action_task c =
    c.requires.action_task

pub action_value-a-requires-clause-value_task : goal.action_value-a-requires-clause-value_task
action_value-a-requires-clause-value_task c =
    value-fresh c.requires.value_task 3072 (lit≤ tt)

pub returns-in_default : goal.returns-in_default
returns-in_default c =
    folded-refused c.requires.buffer_listing Max Shared (tried-is _ _ _ _ _) c.action_value-a.ensures c.in_default.is

pub overflow_mul-gain : goal.overflow_mul-gain
overflow_mul-gain c =
    let p = result-few (c.action_value-a.ensures.result _ c.in-Ok.is) in search rules

pub slice_bounds-gain-end : goal.slice_bounds-gain-end
slice_bounds-gain-end c =
    let p = result-few (c.action_value-a.ensures.result _ c.in-Ok.is) in search rules

pub slice_bounds-fold_shared-end : goal.slice_bounds-fold_shared-end
slice_bounds-fold_shared-end c =
    result-long (c.action_value-a.ensures.result _ c.in-Ok.is)

pub fold_shared-requires : goal.fold_shared-requires
fold_shared-requires c =
    folded-able c.requires.buffer_listing Max Shared (tried-is _ _ _ _ _) c.action_value-a.ensures c.in-Ok.is c.requires.value_task.out-room c.requires.value_task.work-room
    c.action_value-a.auto.work

pub returns : goal.returns
returns c =
    folded-given c.requires.buffer_listing Max Shared (tried-is _ _ _ _ _) c.action_value-a.ensures c.in-Ok.is c.fold_shared.ensures
