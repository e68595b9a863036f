use Rattle.forms.specs.Form.{head_form}
use Rattle.forms.proofs.if_head.Goals as goal

pub returns : goal.returns
unfolding head_form
returns c = cc
