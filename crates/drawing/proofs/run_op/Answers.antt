use Rattle.drawing.proofs.StackLaws.{leaf-many, leaf-full, leaf-row, step-moves, ask-many, ask-went}
use Rattle.std.specs.Prelude.{◌≡◌, None}
use Rattle.refusal.specs.declared.Refusal.TheVariants.{Space as NoSpace}
use Rattle.diagram.specs.Sizes.{space_rows}
use Rattle.std.specs.Result.{result_ok}
use Rattle.std.proofs.Common.{ap, ◌∙◌, arith}
use Rattle.std.proofs.lemmas.Result.{err_from_is_err_and}
use Rattle.drawing.proofs.run_op.Goals as goal

pub returns-then-results-ge-RESULTS : goal.returns-then-results-ge-RESULTS
returns-then-results-ge-RESULTS c =
    leaf-many c.args.k c.requires.ops c.requires.k_in_bounds c.requires.stacked c.requires.ready
    c.if-kind-eq0.true c.if-results-ge-RESULTS.true

pub returns-in_err-i : goal.returns-in_err-i
returns-in_err-i c =
    let n : c.leaf.result ≡ None = grind arith in
    let w : c.in_err-i.field-0.0 ≡ (NoSpace, space_rows) = grind arith in
    let p = err_from_is_err_and c.from_residual.result c.from_residual.ensures.1 in
    rw (p.1, p.2, w) (leaf-full c.args.k c.requires.ops c.requires.k_in_bounds c.requires.stacked c.requires.ready c.if-kind-eq0.true c.if-results-ge-RESULTS.false c.leaf.ensures n)

pub returns-then-kind-eq0 : goal.returns-then-kind-eq0
returns-then-kind-eq0 c =
    leaf-row c.args.k c.requires.ops c.requires.k_in_bounds c.requires.stacked c.requires.ready c.if-kind-eq0.true c.if-results-ge-RESULTS.false
    c.leaf.ensures (c.ok_or.ensures.ok_part ∙ ap result_ok c.in_ok-i.was)

pub returns-then-kind-ge3 : goal.returns-then-kind-ge3
returns-then-kind-ge3 c =
    step-moves c.args.k c.requires.ops c.requires.k_in_bounds c.requires.stacked c.requires.ready c.if-kind-eq0.false c.if-kind-ge3.true c.close.ensures

pub returns-then-tests-ge-TESTS : goal.returns-then-tests-ge-TESTS
returns-then-tests-ge-TESTS c =
    ask-many c.args.k c.requires.ops c.requires.k_in_bounds c.requires.stacked c.requires.ready c.if-kind-eq0.false c.if-kind-ge3.false c.if-tests-ge-TESTS.true

pub returns : goal.returns
returns c =
    ask-went c.args.k c.requires.ops c.requires.k_in_bounds c.requires.stacked c.requires.ready c.if-kind-eq0.false c.if-kind-ge3.false c.if-tests-ge-TESTS.false
