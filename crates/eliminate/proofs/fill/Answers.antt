use Rattle.eliminate.proofs.FillLaws.{fill-looking, fill_on, fill_end}
use Rattle.eliminate.proofs.fill.Goals as goal

pub best-b-requires : goal.best-b-requires
best-b-requires c =
    fill-looking c.loop-e.invariant c.decode.ensures

pub loop-e-preserved : goal.loop-e-preserved
loop-e-preserved c =
    fill_on c.loop-e.invariant c.loop-e-test.true c.decode.ensures c.best-b.ensures

pub returns : goal.returns
returns c =
    fill_end c.loop-e.invariant c.loop-e-test.false
