use Rattle.text.specs.LineForm.{headed_form}
use Rattle.line_reader.proofs.LineCode.{behind, behind-two}
use Rattle.line_reader.proofs.read_headed.Goals as goal

pub returns : goal.returns
unfolding headed_form
returns c =
    let headed = behind-two _ _ c.byte_after-a.ensures c.plain_after-b.ensures in
    behind _ (behind-two _ _ headed c.diagram_after-c.ensures) c.byte_after.ensures
