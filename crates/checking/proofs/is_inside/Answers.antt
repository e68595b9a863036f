use Rattle.checking.proofs.TestLaws.{inside-no, inside-rest}
use Rattle.checking.proofs.is_inside.Goals as goal

pub returns-then-start-used : goal.returns-then-start-used
returns-then-start-used c =
    inside-rest _ _ _ c.if-start-used.true

pub returns-else-start-used : goal.returns-else-start-used
returns-else-start-used c =
    inside-no _ _ _ c.if-start-used.false
