use Rattle.steps.specs.GivenLaws.{result-long, result-few}
use Rattle.best_move.proofs.ActionLaws.{value-fresh, task-few, sum-stops, sum-tried}
use lib.Dec.{lit≤}
use borrow.Author.Rules.{rules}
use Rattle.std.proofs.lemmas.Result.{err_from_is_err_and}
use Rattle.best_move.proofs.try_action.Goals as goal

pub variants_sum-requires-clause-action_task : goal.variants_sum-requires-clause-action_task
variants_sum-requires-clause-action_task c =
    c.requires.action_task

pub variants_sum-requires-clause-value_task : goal.variants_sum-requires-clause-value_task
variants_sum-requires-clause-value_task c =
    value-fresh c.requires.value_given 3072 (lit≤ tt)

pub returns-in_err-rows : goal.returns-in_err-rows
returns-in_err-rows c =
    let p = err_from_is_err_and c.from_residual.result c.from_residual.ensures.1 in
    rw (p.1, p.2) (sum-stops _ _ _ _ _ _ _ _ _ _ c.variants_sum.ensures c.in_err-rows.was)

pub overflow_mul-sum : goal.overflow_mul-sum
overflow_mul-sum c =
    let p = result-few (c.variants_sum.ensures.result _ c.in_ok-rows.was) in search rules

pub slice_bounds-sum-end : goal.slice_bounds-sum-end
slice_bounds-sum-end c =
    (c.variants_sum.ensures.result _ c.in_ok-rows.was).room

pub slice_bounds-try_sum-end : goal.slice_bounds-try_sum-end
slice_bounds-try_sum-end c =
    result-long (c.variants_sum.ensures.result _ c.in_ok-rows.was)

pub try_sum-requires-clause-words_value : goal.try_sum-requires-clause-words_value
try_sum-requires-clause-words_value c =
    (c.variants_sum.ensures.result _ c.in_ok-rows.was).listing

pub try_sum-requires-clause-placed : goal.try_sum-requires-clause-placed
try_sum-requires-clause-placed c =
    c.requires.placed

pub try_sum-requires-clause-count_le_parameter_count : goal.try_sum-requires-clause-count_le_parameter_count
try_sum-requires-clause-count_le_parameter_count c =
    task-few c.requires.action_task

pub try_sum-requires-clause-leading : goal.try_sum-requires-clause-leading
try_sum-requires-clause-leading c =
    c.requires.leading

pub returns : goal.returns
returns c =
    sum-tried _ _ _ _ _ _ _ _ _ _ c.variants_sum.ensures c.in_ok-rows.was c.try_sum.ensures
