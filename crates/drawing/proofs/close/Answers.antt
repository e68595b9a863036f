use Rattle.drawing.proofs.StackLaws.{close-untested, close-few, close-place, close-testable, close-two, close_row, close-refused}
use Rattle.std.proofs.lemmas.Result.{err_from_is_err_and}
use Rattle.drawing.proofs.close.Goals as goal

pub returns-then-tests-eq0 : goal.returns-then-tests-eq0
returns-then-tests-eq0 c =
    close-untested c.requires.ops c.requires.stacked c.requires.ready c.if-tests-eq0.true

pub returns-then-results-lt2 : goal.returns-then-results-lt2
returns-then-results-lt2 c =
    close-few c.requires.ops c.requires.stacked c.requires.ready c.if-tests-eq0.false c.if-results-lt2.true

pub test_at-test-requires : goal.test_at-test-requires
test_at-test-requires c =
    close-place c.requires.ops c.requires.stacked c.requires.ready c.if-tests-eq0.false

pub test_step-requires-clause-testable : goal.test_step-requires-clause-testable
test_step-requires-clause-testable c =
    close-testable c.requires.ops c.requires.stacked c.requires.ready c.if-tests-eq0.false c.test_at-test.ensures

pub test_step-requires-clause-two : goal.test_step-requires-clause-two
test_step-requires-clause-two c =
    close-two c.requires.ops c.requires.stacked c.requires.ready c.if-tests-eq0.false c.if-results-lt2.false

pub returns : goal.returns
returns c =
    close_row c.requires.ops c.requires.stacked c.requires.ready c.if-tests-eq0.false c.if-results-lt2.false c.test_at-test.ensures c.test_step.ensures c.in_ok-i.was

pub returns-in_err-i : goal.returns-in_err-i
returns-in_err-i c =
    let p = err_from_is_err_and c.from_residual.result c.from_residual.ensures.1 in
    rw (p.1, p.2) (close-refused c.requires.ops c.requires.stacked c.requires.ready c.if-tests-eq0.false c.if-results-lt2.false c.test_at-test.ensures c.test_step.ensures c.in_err-i.was)
