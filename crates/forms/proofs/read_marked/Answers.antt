use Rattle.forms.specs.Form.{marked_form}
use Rattle.forms.proofs.read_marked.Goals as goal

pub returns : goal.returns
unfolding marked_form
returns c =
    cc
