use Rattle.checking.proofs.TestLaws.{looked-start, looked-on, looked-no, looked-all}
use Rattle.std.proofs.lemmas.Bool.{not_from_false}
use Rattle.std.proofs.lemmas.Bool.{not_from_true}
use Rattle.checking.proofs.truths_fit.Goals as goal

pub loop-p-init : goal.loop-p-init
loop-p-init c =
    looked-start _ _

pub truth_fits-requires-clause-lent : goal.truth_fits-requires-clause-lent
truth_fits-requires-clause-lent c =
    c.requires.lent

pub truth_fits-requires-clause-variant_words_in_bounds : goal.truth_fits-requires-clause-variant_words_in_bounds
truth_fits-requires-clause-variant_words_in_bounds c =
    c.requires.variant_words_in_bounds

pub truth_fits-requires-clause-p_lt_predicate_count : goal.truth_fits-requires-clause-p_lt_predicate_count
truth_fits-requires-clause-p_lt_predicate_count c =
    c.loop-p-test.true

pub returns-then-not-truth_fits : goal.returns-then-not-truth_fits
returns-then-not-truth_fits c =
    looked-no c.loop-p.invariant c.loop-p-test.true c.truth_fits.ensures (not_from_false _ c.if-not-truth_fits.true)

pub loop-p-preserved : goal.loop-p-preserved
loop-p-preserved c =
    looked-on c.loop-p.invariant c.loop-p-test.true c.truth_fits.ensures (not_from_true _ c.if-not-truth_fits.false)

pub returns : goal.returns
returns c =
    looked-all c.loop-p.invariant c.loop-p-test.false
