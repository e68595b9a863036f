use Rattle.text.specs.LineForm.{one_form}
use Rattle.line_reader.proofs.LineCode.{behind}
use Rattle.line_reader.proofs.read_one.Goals as goal

pub returns : goal.returns
unfolding one_form
returns c =
    behind _ (behind _ c.byte_after-a.ensures c.item_after-b.ensures) c.byte_after.ensures
