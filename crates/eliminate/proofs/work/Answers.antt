use Rattle.eliminate.proofs.WorkLaws.{go-over, go_on}
use Rattle.eliminate.proofs.work.Goals as goal

pub returns-in_err-a : goal.returns-in_err-a
returns-in_err-a c =
    rw c.from_residual.ensures (go-over c.loop-i.invariant c.loop-i-test.true c.work_row.ensures c.in_err-a.was)

pub loop-i-preserved : goal.loop-i-preserved
loop-i-preserved c =
    go_on c.loop-i.invariant c.loop-i-test.true c.work_row.ensures c.in_ok-a.was
    c.work_row.auto.heads c.work_row.auto.space c.work_row.auto.env
