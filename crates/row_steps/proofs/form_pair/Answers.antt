use Rattle.row_steps.proofs.StepRunLaws.{pair-high, pair-low, pair-formable, pair-formed}
use Rattle.row_steps.proofs.form_pair.Goals as goal

pub returns-in_err-t : goal.returns-in_err-t
returns-in_err-t c =
    rw c.from_residual.ensures (pair-high c.requires.holds c.requires.label_lt_leaf_mark _ c.leaf.ensures c.in_err-t.was)

pub returns-in_err-f : goal.returns-in_err-f
returns-in_err-f c =
    rw c.from_residual-in_err-f.ensures (pair-low c.requires.holds c.requires.label_lt_leaf_mark _ c.leaf.ensures c.in_ok-t.was c.leaf-2.ensures c.in_err-f.was)

pub form-requires-clause-formable : goal.form-requires-clause-formable
form-requires-clause-formable c =
    pair-formable c.requires.holds c.requires.label_lt_leaf_mark _ c.leaf.ensures c.in_ok-t.was c.leaf-2.ensures c.in_ok-f.was

pub returns : goal.returns
returns c =
    pair-formed c.requires.holds c.requires.label_lt_leaf_mark _ c.leaf.ensures c.in_ok-t.was c.leaf-2.ensures c.in_ok-f.was c.form.ensures
