use Rattle.restoring.proofs.TestLaws.{part-model, part-unrewarded, part-idle, part-rest}
use Rattle.restoring.proofs.part_fits.Goals as goal

pub returns-then-not-n : goal.returns-then-not-n
returns-then-not-n c =
    part-unrewarded _ _ _ c.in-Run.is c.if-not-n.true

pub returns-then-head-lt1 : goal.returns-then-head-lt1
returns-then-head-lt1 c =
    part-idle _ _ _ c.in-Run.is c.if-not-n.false c.if-head-lt1.true

pub returns-in-Model : goal.returns-in-Model
returns-in-Model c =
    part-model _ _ _ c.in-Model.is

pub returns-else-head-lt1 : goal.returns-else-head-lt1
returns-else-head-lt1 c =
    part-rest _ _ _ c.in-Run.is c.if-not-n.false c.if-head-lt1.false c.run_fits.ensures
