use Rattle.names.proofs.SearchCode.{found, passed-more, found_none}
use Rattle.names.proofs.find.Goals as goal

pub returns-then-same : goal.returns-then-same
returns-then-same c =
    search found

pub loop-i-preserved : goal.loop-i-preserved
loop-i-preserved c =
    search passed-more

pub returns : goal.returns
returns c =
    search found_none
