use Rattle.row_steps.proofs.StepRunLaws.{test-formed}
use Rattle.row_steps.proofs.form_test.Goals as goal

pub returns : goal.returns
returns c =
    test-formed _ _ _ c.form_leaves.ensures
