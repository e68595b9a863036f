use Rattle.table.proofs.TableLaws.{walk-less, look-start, look_hit, look-on, look_none}
use Rattle.table.proofs.lookup.Goals as goal

pub loop-at-init : goal.loop-at-init
loop-at-init c =
    search look-start

pub returns-then-same : goal.returns-then-same
returns-then-same c =
    search look_hit

pub loop-at-smaller : goal.loop-at-smaller
loop-at-smaller c =
    search walk-less

pub loop-at-preserved : goal.loop-at-preserved
loop-at-preserved c =
    search look-on

pub returns : goal.returns
returns c =
    search look_none
