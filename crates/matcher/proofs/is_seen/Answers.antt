use Rattle.matcher.proofs.OrderLaws.{seen_low, seen-is}
use Rattle.matcher.proofs.is_seen.Goals as goal

pub returns-then-t-lt-FIRST_VARIABLE : goal.returns-then-t-lt-FIRST_VARIABLE
returns-then-t-lt-FIRST_VARIABLE c =
    search seen_low

pub returns : goal.returns
returns c =
    search seen-is
