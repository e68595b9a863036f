use Rattle.restoring.proofs.TestLaws.{log-count, log-total, log-some, log-none}
use Rattle.restoring.proofs.log_fits.Goals as goal

pub returns-then-live-gt-VALUE : goal.returns-then-live-gt-VALUE
returns-then-live-gt-VALUE c =
    log-count _ c.if-live-gt-VALUE.true

pub returns-then-live-gt-VALUE-2 : goal.returns-then-live-gt-VALUE-2
returns-then-live-gt-VALUE-2 c =
    log-total _ c.if-live-gt-VALUE.false c.if-live-gt-VALUE-2.true

pub returns-then-live-ne0 : goal.returns-then-live-ne0
returns-then-live-ne0 c =
    log-some _ c.if-live-gt-VALUE.false c.if-live-gt-VALUE-2.false c.if-live-ne0.true

pub returns : goal.returns
returns c =
    log-none _ c.if-live-gt-VALUE.false c.if-live-gt-VALUE-2.false c.if-live-ne0.false
