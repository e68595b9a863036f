use Rattle.pruning.proofs.KeepingLaws.{child-gone, child-there}
use Rattle.pruning.proofs.child.Goals as goal

pub returns-then-edges-e-eq0 : goal.returns-then-edges-e-eq0
returns-then-edges-e-eq0 c =
    child-gone _ c.if-edges-e-eq0.true

pub returns-else-edges-e-eq0 : goal.returns-else-edges-e-eq0
returns-else-edges-e-eq0 c =
    child-there c.if-edges-e-eq0.false c.wide.ensures
