use Rattle.eliminate.proofs.BestLaws.{look-true, look-false}
use Rattle.eliminate.proofs.look.Goals as goal

pub returns-then-truth : goal.returns-then-truth
returns-then-truth c =
    look-true _ _ _ _ _ _ _ _ _ c.truth.ensures c.if-truth.true c.entry.ensures

pub returns : goal.returns
returns c =
    look-false _ _ _ _ _ _ _ _ _ c.truth.ensures c.if-truth.false c.entry-2.ensures
