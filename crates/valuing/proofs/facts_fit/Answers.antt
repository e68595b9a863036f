use Rattle.valuing.proofs.CheckLaws.{naming-start, naming-no, naming-on, naming-all}
use Rattle.std.proofs.lemmas.Bool.{not_from_false}
use Rattle.std.proofs.lemmas.Bool.{not_from_true}
use Rattle.valuing.proofs.facts_fit.Goals as goal

pub loop-i-init : goal.loop-i-init
loop-i-init c =
    naming-start _ _ _

pub returns-then-not-row_fits : goal.returns-then-not-row_fits
returns-then-not-row_fits c =
    naming-no _ _ _ _ c.loop-i-test.true c.row_fits.ensures (not_from_false _ c.if-not-row_fits.true)

pub loop-i-preserved : goal.loop-i-preserved
loop-i-preserved c =
    naming-on c.loop-i.invariant c.loop-i-test.true c.row_fits.ensures (not_from_true _ c.if-not-row_fits.false)

pub returns : goal.returns
returns c =
    search naming-all
