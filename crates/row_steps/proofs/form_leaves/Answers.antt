use Rattle.row_steps.proofs.StepRunLaws.{leaves-always, leaves-is}
use Rattle.row_steps.proofs.form_leaves.Goals as goal

pub returns-in-Always : goal.returns-in-Always
returns-in-Always c =
    leaves-always _ _ _ c.in-Always.is c.leaf.ensures

pub returns-in-Is : goal.returns-in-Is
returns-in-Is c =
    leaves-is _ _ c.in-Is.is c.form_pair.ensures
