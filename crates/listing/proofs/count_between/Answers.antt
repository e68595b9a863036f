use Rattle.listing.proofs.MarkLaws.{count_next, count-end, count_bit}
use Rattle.listing.proofs.count_between.Goals as goal

pub loop-t-preserved : goal.loop-t-preserved
loop-t-preserved c =
    count_next c.loop-t.invariant c.loop-t-test.true (count_bit _ c.from-n.ensures)

pub returns : goal.returns
returns c =
    count-end c.loop-t.invariant c.loop-t-test.false
