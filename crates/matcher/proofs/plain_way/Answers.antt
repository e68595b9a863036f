use Rattle.matcher.proofs.WayLaws.{plain-nothing, plain-terms}
use Rattle.matcher.proofs.plain_way.Goals as goal

pub returns-then-not-alike : goal.returns-then-not-alike
returns-then-not-alike c =
    search plain-nothing

pub returns : goal.returns
returns c =
    search plain-terms
