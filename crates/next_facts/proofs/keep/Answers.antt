use Rattle.next_facts.proofs.KeepLaws.{keeping_start, keeping-ask, keeping-many, keeping-on, keeping-end}
use Rattle.next_facts.proofs.keep.Goals as goal

pub loop-i-init : goal.loop-i-init
loop-i-init c =
    search keeping_start

pub returns-in_err-m : goal.returns-in_err-m
returns-in_err-m c =
    rw c.from_residual.ensures (search (keeping-many, c.in_err-m.was))

pub loop-i-preserved : goal.loop-i-preserved
loop-i-preserved c =
    search (keeping-on, c.in_ok-m.was)

pub returns : goal.returns
returns c =
    search keeping-end

pub keep_row-requires-clause-room : goal.keep_row-requires-clause-room
keep_row-requires-clause-room c = (keeping-ask c.loop-i.invariant c.loop-i-test.true).2
