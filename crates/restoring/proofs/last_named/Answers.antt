use Rattle.restoring.proofs.TestLaws.{named_none, named-parameters, named-rest}
use Rattle.restoring.proofs.last_named.Goals as goal

pub returns-then-actions-eq0 : goal.returns-then-actions-eq0
returns-then-actions-eq0 c =
    named_none _ _ _ c.if-actions-eq0.true

pub returns-then-table-actions : goal.returns-then-table-actions
returns-then-table-actions c =
    named-parameters _ _ _ c.if-actions-eq0.false c.if-table-actions.true

pub returns : goal.returns
returns c =
    named-rest _ _ _ c.if-actions-eq0.false c.if-table-actions.false
