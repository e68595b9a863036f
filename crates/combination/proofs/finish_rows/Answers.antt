use Rattle.combination.proofs.SharedLaws.{rows-over, rows_fit}
use Rattle.combination.proofs.finish_rows.Goals as goal

pub returns-then-rows-gt-ROWS : goal.returns-then-rows-gt-ROWS
returns-then-rows-gt-ROWS c =
    rows-over c.requires c.if-rows-gt-ROWS.true

pub returns : goal.returns
returns c =
    rows_fit c.requires c.if-rows-gt-ROWS.false c.copy.ensures
