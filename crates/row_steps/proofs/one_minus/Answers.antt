use lib.Dec.{lit≤}
use Rattle.diagram.specs.Sizes.{space_rows}
use Rattle.row_steps.proofs.StepRunLaws.{none-noted}
use Rattle.row_steps.proofs.one_minus.Goals as goal

pub exchange-requires : goal.exchange-requires
exchange-requires c = none-noted space_rows (lit≤ tt) c.requires.holds c.requires.test_lt_count
