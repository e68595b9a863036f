use Rattle.count_states.proofs.StateLaws.{counting-start, choices-power, choices-kept, counting-refused, counting-enterable, counting-end, value-some, counting-on}
use Rattle.std.proofs.lemmas.Result.{err_from_is_err_and}
use Rattle.count_states.proofs.count_choices.Goals as goal

pub power-states-requires : goal.power-states-requires
power-states-requires c =
    search choices-power

pub loop-c-init : goal.loop-c-init
loop-c-init c =
    search counting-start

pub value_choice-requires-clause-choices : goal.value_choice-requires-clause-choices
value_choice-requires-clause-choices c =
    search choices-kept

pub returns-in_err-v : goal.returns-in_err-v
returns-in_err-v c =
    let p = err_from_is_err_and c.from_residual.result c.from_residual.ensures.1 in
    rw (p.1, p.2) (search (counting-refused, c.in_err-v.was))

pub overflow_sub-v : goal.overflow_sub-v
overflow_sub-v c =
    search (value-some, c.in_ok-v.was)

pub enter-count-requires : goal.enter-count-requires
enter-count-requires c =
    search counting-enterable

pub loop-c-preserved : goal.loop-c-preserved
loop-c-preserved c =
    search (counting-on, c.in_ok-v.was)

pub returns : goal.returns
returns c =
    search counting-end
