use Rattle.text.specs.LineForm.{drawn_form}
use Rattle.line_reader.proofs.LineCode.{behind}
use Rattle.line_reader.proofs.read_drawn.Goals as goal

pub returns : goal.returns
unfolding drawn_form
returns c =
    behind _ c.diagram_after-a.ensures c.byte_after.ensures
