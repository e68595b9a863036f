use Rattle.text.specs.LineForm.{two_form}
use Rattle.line_reader.proofs.LineCode.{behind}
use Rattle.line_reader.proofs.read_two.Goals as goal

pub returns : goal.returns
unfolding two_form
returns c =
    let one = behind _ c.byte_after-a.ensures c.item_after-b.ensures in
    behind _ (behind _ (behind _ one c.byte_after-c.ensures) c.item_after-d.ensures) c.byte_after.ensures
