use Rattle.restoring.proofs.TestLaws.{rows_are}
use Rattle.restoring.proofs.rows_fit.Goals as goal

pub returns : goal.returns
returns c =
    rows_are c.args.rows c.args.words
