use Rattle.declare.proofs.TableLaws.{declared-constant, declared-predicate}
use Rattle.declare.proofs.is_declared.Goals as goal

pub returns-then-find-n : goal.returns-then-find-n
returns-then-find-n c =
    declared-constant _ _ _ c.find.ensures c.if-find-n.true

pub returns-else-find-n : goal.returns-else-find-n
returns-else-find-n c =
    declared-predicate _ _ _ c.find.ensures c.find-else-find-n.ensures c.if-find-n.false
