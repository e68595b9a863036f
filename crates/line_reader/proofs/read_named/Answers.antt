use Rattle.text.specs.LineForm.{named_form}
use Rattle.line_reader.proofs.LineCode.{behind, behind-two}
use Rattle.line_reader.proofs.read_named.Goals as goal

pub returns : goal.returns
unfolding named_form
returns c =
    let named = behind _ c.byte_after-a.ensures c.item_after-b.ensures in
    behind _ (behind-two _ _ named c.diagram_after-c.ensures) c.byte_after.ensures
