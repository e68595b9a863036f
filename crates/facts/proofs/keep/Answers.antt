use Rattle.facts.proofs.TupleLaws.{keep-none, keep_one}
use Rattle.facts.proofs.keep.Goals as goal

pub returns-then-count-ge-PLACES : goal.returns-then-count-ge-PLACES
returns-then-count-ge-PLACES c =
    search keep-none

pub returns : goal.returns
returns c =
    search keep_one
