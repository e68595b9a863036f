use Rattle.text.specs.LineForm.{listed_form}
use Rattle.line_reader.proofs.read_listed.Goals as goal

pub returns : goal.returns
unfolding listed_form
returns c =
    c.plain_after.ensures
