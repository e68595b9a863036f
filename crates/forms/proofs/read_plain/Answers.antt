use Rattle.forms.specs.Form.{plain_form}
use Rattle.forms.proofs.read_plain.Goals as goal

pub returns : goal.returns
unfolding plain_form
returns c = cc
