use Rattle.text.specs.LineForm.{end_form}
use Rattle.line_reader.proofs.read_end.Goals as goal

pub returns : goal.returns
unfolding end_form
returns c =
    c.byte_after.ensures
