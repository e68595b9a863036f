use Rattle.regress.proofs.TruthLaws.{label-predicate, label-testable, truth-usable, truth-used, truth-stays}
use Rattle.regress.proofs.form_truth.Goals as goal

pub has_truth-requires : goal.has_truth-requires
has_truth-requires c =
    label-predicate c.requires.asking c.predicate-p.ensures

pub truth_words-words-requires : goal.truth_words-words-requires
truth_words-words-requires c =
    label-predicate c.requires.asking c.predicate-p.ensures

pub replace_arguments-requires-clause-usable : goal.replace_arguments-requires-clause-usable
replace_arguments-requires-clause-usable c =
    truth-usable c.requires.asking c.predicate-p.ensures c.has_truth.ensures c.if-has_truth.true c.truth_words-words.ensures

pub replace_arguments-requires-clause-ready : goal.replace_arguments-requires-clause-ready
replace_arguments-requires-clause-ready c =
    c.requires.ready

pub returns-then-has_truth : goal.returns-then-has_truth
returns-then-has_truth c =
    truth-used c.requires.asking c.predicate-p.ensures c.has_truth.ensures c.if-has_truth.true c.truth_words-words.ensures c.replace_arguments.ensures

pub form_test-requires-clause-holds : goal.form_test-requires-clause-holds
form_test-requires-clause-holds c =
    c.requires.ready.space.holds

pub form_test-requires-clause-testable : goal.form_test-requires-clause-testable
form_test-requires-clause-testable c =
    label-testable c.requires.asking

pub returns : goal.returns
returns c =
    truth-stays c.requires.asking c.predicate-p.ensures c.has_truth.ensures c.if-has_truth.false c.requires.ready c.form_test.ensures c.told.ensures
