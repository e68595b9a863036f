use Rattle.checking.proofs.TestLaws.{looked-start, looked-on, looked-no, looked-all}
use Rattle.std.proofs.lemmas.Bool.{not_from_false}
use Rattle.std.proofs.lemmas.Bool.{not_from_true}
use Rattle.checking.proofs.variants_fit.Goals as goal

pub loop-v-init : goal.loop-v-init
loop-v-init c =
    looked-start _ _

pub returns-then-not-variant_fits : goal.returns-then-not-variant_fits
returns-then-not-variant_fits c =
    looked-no c.loop-v.invariant c.loop-v-test.true c.variant_fits.ensures (not_from_false _ c.if-not-variant_fits.true)

pub loop-v-preserved : goal.loop-v-preserved
loop-v-preserved c =
    looked-on c.loop-v.invariant c.loop-v-test.true c.variant_fits.ensures (not_from_true _ c.if-not-variant_fits.false)

pub returns : goal.returns
returns c =
    looked-all c.loop-v.invariant c.loop-v-test.false
