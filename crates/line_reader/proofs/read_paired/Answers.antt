use Rattle.text.specs.LineForm.{paired_form}
use Rattle.line_reader.proofs.LineCode.{behind, behind-two}
use Rattle.line_reader.proofs.read_paired.Goals as goal

pub returns : goal.returns
unfolding paired_form
returns c =
    behind-two _ _ (behind _ c.byte_after-a.ensures c.item_after-b.ensures) c.plain_after.ensures
