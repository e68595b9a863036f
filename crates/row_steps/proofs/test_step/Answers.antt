use mathlib.Core.Path.{ap, ◌∙◌}
use Rattle.std.specs.Result.{result_ok}
use Rattle.std.proofs.lemmas.Result.{err_from_is_err_and}
use Rattle.row_steps.proofs.StepRunLaws.{none-there, test-full, test-other-full, test-ready, test-four, test-split}
use Rattle.row_steps.proofs.test_step.Goals as goal

pub returns-in_err-t : goal.returns-in_err-t
returns-in_err-t c =
    let gone = none-there c.form_test.result c.ok_or.ensures.value c.in_err-t.was in
    let p = err_from_is_err_and c.from_residual.result c.from_residual.ensures.1 in
    rw (p.1, p.2, gone.1) (test-full _ c.requires.ready c.requires.two c.form_test.ensures gone.0)

pub returns-in_err-other : goal.returns-in_err-other
returns-in_err-other c =
    let gone = none-there c.form_other.result c.ok_or-2.ensures.value c.in_err-other.was in
    let p = err_from_is_err_and c.from_residual-in_err-other.result c.from_residual-in_err-other.ensures.1 in
    rw (p.1, p.2, gone.1) (test-other-full _ c.requires.ready c.requires.two c.form_test.ensures (c.ok_or.ensures.ok_part ∙ ap result_ok c.in_ok-t.was)
    c.form_other.ensures gone.0)

pub split_step-requires-clause-ready : goal.split_step-requires-clause-ready
split_step-requires-clause-ready c =
    test-ready _ c.requires.ready c.requires.two c.form_test.ensures (c.ok_or.ensures.ok_part ∙ ap result_ok c.in_ok-t.was)
    c.form_other.ensures (c.ok_or-2.ensures.ok_part ∙ ap result_ok c.in_ok-other.was)

pub split_step-requires-clause-four : goal.split_step-requires-clause-four
split_step-requires-clause-four c =
    test-four _ c.requires.ready c.requires.two c.form_test.ensures (c.ok_or.ensures.ok_part ∙ ap result_ok c.in_ok-t.was)
    c.form_other.ensures (c.ok_or-2.ensures.ok_part ∙ ap result_ok c.in_ok-other.was)

pub returns : goal.returns
returns c =
    test-split _ c.requires.ready c.requires.two c.form_test.ensures (c.ok_or.ensures.ok_part ∙ ap result_ok c.in_ok-t.was)
    c.form_other.ensures (c.ok_or-2.ensures.ok_part ∙ ap result_ok c.in_ok-other.was) c.split_step.ensures
