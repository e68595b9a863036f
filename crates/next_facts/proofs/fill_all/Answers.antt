use Rattle.next_facts.proofs.CallLaws.{passing-start, passing-ask, passing-many, passing-on, passing-end}
use Rattle.next_facts.proofs.fill_all.Goals as goal

pub loop-q-init : goal.loop-q-init
loop-q-init c =
    passing-start _ _ _ _ c.requires.askable

pub fill_at-requires-clause-askable : goal.fill_at-requires-clause-askable
fill_at-requires-clause-askable c =
    passing-ask c.loop-q.invariant c.loop-q-test.true

pub fill_at-requires-clause-standing : goal.fill_at-requires-clause-standing
fill_at-requires-clause-standing c =
    c.requires.standing

pub returns-in_err-count : goal.returns-in_err-count
returns-in_err-count c =
    rw c.from_residual.ensures (passing-many c.loop-q.invariant c.loop-q-test.true c.fill_at.ensures c.in_err-count.was)

pub loop-q-preserved : goal.loop-q-preserved
loop-q-preserved c =
    passing-on c.loop-q.invariant
    c.loop-q-test.true c.fill_at.ensures
    c.fill_at.auto.marks c.fill_at.auto.out c.in_ok-count.was

pub returns : goal.returns
returns c =
    passing-end c.loop-q.invariant c.loop-q-test.false
