use Rattle.checking.proofs.TestLaws.{looked-start, looked-on, looked-no, looked-all}
use Rattle.std.proofs.lemmas.Bool.{not_from_false}
use Rattle.std.proofs.lemmas.Bool.{not_from_true}
use Rattle.checking.proofs.actions_fit.Goals as goal

pub loop-a-init : goal.loop-a-init
loop-a-init c =
    looked-start _ _

pub returns-then-not-action_fits : goal.returns-then-not-action_fits
returns-then-not-action_fits c =
    looked-no c.loop-a.invariant c.loop-a-test.true c.action_fits.ensures (not_from_false _ c.if-not-action_fits.true)

pub loop-a-preserved : goal.loop-a-preserved
loop-a-preserved c =
    looked-on c.loop-a.invariant c.loop-a-test.true c.action_fits.ensures (not_from_true _ c.if-not-action_fits.false)

pub returns : goal.returns
returns c =
    looked-all c.loop-a.invariant c.loop-a-test.false
