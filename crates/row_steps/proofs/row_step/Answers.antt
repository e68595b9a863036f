use mathlib.Core.Path.{ap, ◌∙◌}
use Rattle.std.specs.Result.{result_ok}
use Rattle.std.proofs.lemmas.Result.{err_from_is_err_and}
use Rattle.row_steps.proofs.StepRunLaws.{none-there, step-full, step-ready, step-four, step-split}
use Rattle.row_steps.proofs.row_step.Goals as goal

pub returns-in_err-other : goal.returns-in_err-other
returns-in_err-other c =
    let gone = none-there c.one_minus.result c.ok_or.ensures.value c.in_err-other.was in
    let p = err_from_is_err_and c.from_residual.result c.from_residual.ensures.1 in
    rw (p.1, p.2, gone.1) (step-full c.requires.ready c.requires.three c.one_minus.ensures gone.0)

pub split_step-requires-clause-ready : goal.split_step-requires-clause-ready
split_step-requires-clause-ready c =
    step-ready c.requires.ready c.requires.three c.one_minus.ensures (c.ok_or.ensures.ok_part ∙ ap result_ok c.in_ok-other.was)

pub split_step-requires-clause-four : goal.split_step-requires-clause-four
split_step-requires-clause-four c =
    step-four c.requires.ready c.requires.three c.one_minus.ensures (c.ok_or.ensures.ok_part ∙ ap result_ok c.in_ok-other.was)

pub returns : goal.returns
returns c =
    step-split c.requires.ready c.requires.three c.one_minus.ensures (c.ok_or.ensures.ok_part ∙ ap result_ok c.in_ok-other.was) c.split_step.ensures
