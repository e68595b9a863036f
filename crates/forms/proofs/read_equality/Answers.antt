use Rattle.forms.specs.Form.{equality_form}
use Rattle.forms.proofs.read_equality.Goals as goal

pub returns : goal.returns
unfolding equality_form
returns c =
    cc
