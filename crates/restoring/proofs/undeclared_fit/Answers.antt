use Rattle.checking.proofs.TestLaws.{looked-start, looked-on, looked-no, looked-all}
use Rattle.std.proofs.lemmas.Bool.{not_from_false}
use Rattle.std.proofs.lemmas.Bool.{not_from_true}
use Rattle.restoring.proofs.undeclared_fit.Goals as goal

pub loop-p-init : goal.loop-p-init
loop-p-init c =
    looked-start _ _

pub returns-then-not-arity_fits : goal.returns-then-not-arity_fits
returns-then-not-arity_fits c =
    looked-no c.loop-p.invariant c.loop-p-test.true c.arity_fits.ensures (not_from_false _ c.if-not-arity_fits.true)

pub loop-p-preserved : goal.loop-p-preserved
loop-p-preserved c =
    looked-on c.loop-p.invariant c.loop-p-test.true c.arity_fits.ensures (not_from_true _ c.if-not-arity_fits.false)

pub returns : goal.returns
returns c =
    looked-all c.loop-p.invariant c.loop-p-test.false
