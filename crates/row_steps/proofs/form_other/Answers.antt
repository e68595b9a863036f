use Rattle.row_steps.proofs.StepRunLaws.{other-formed}
use Rattle.row_steps.proofs.form_other.Goals as goal

pub returns : goal.returns
returns c =
    other-formed _ _ _ c.form_leaves.ensures
