use native.Mathlib.Omega.{arith}
use lib.Dec.{lit≤}
use mathlib.Core.Path.{refl, sym, ◌∙◌}
use Rattle.drawing.proofs.RunningLaws.{running-start, running-on, running-stop, running-ready, running-open, running-many, running-end}
use Rattle.std.proofs.lemmas.Result.{err_from_is_err_and}
use Rattle.drawing.proofs.build_rows.Goals as goal

pub loop-k-init : goal.loop-k-init
loop-k-init c =
    (refl, refl, refl, refl, refl, refl, c.requires.ready, running-start _ _ 129 (lit≤ tt))

pub slice_bounds-run_op-end : goal.slice_bounds-run_op-end
slice_bounds-run_op-end c =
    sym c.loop-k.invariant.5

pub loop-k-preserved : goal.loop-k-preserved
loop-k-preserved c = (
  c.run_op.auto.plan ∙ c.loop-k.invariant.0,
  c.run_op.auto.index ∙ c.loop-k.invariant.1,
  c.run_op.auto.space ∙ c.loop-k.invariant.2,
  c.run_op.auto.heads ∙ c.loop-k.invariant.3,
  c.run_op.auto.links ∙ c.loop-k.invariant.4,
  c.run_op.auto.stack ∙ c.loop-k.invariant.5,
  running-ready c.loop-k.invariant.7 c.loop-k-test.true c.run_op.ensures c.loop-k.invariant.6 c.run_op.auto.plan c.in_ok-tests.was,
  running-on c.loop-k.invariant.7 c.loop-k-test.true c.run_op.ensures c.in_ok-tests.was,
)

pub returns-in_err-tests : goal.returns-in_err-tests
returns-in_err-tests c =
    let p = err_from_is_err_and c.from_residual.result c.from_residual.ensures.1 in
    rw (p.1, p.2) (running-stop c.loop-k.invariant.7 c.loop-k-test.true c.run_op.ensures _ c.in_err-tests.was)

pub returns-then-tests-ne0 : goal.returns-then-tests-ne0
returns-then-tests-ne0 c =
    running-open c.loop-k.invariant.7 c.loop-k-test.false c.loop-k.invariant.6 _ c.if-tests-ne0.true

pub returns-then-results-ne1 : goal.returns-then-results-ne1
returns-then-results-ne1 c =
    running-many c.loop-k.invariant.7 c.loop-k-test.false c.loop-k.invariant.6 _ c.if-tests-ne0.false c.if-results-ne1.true

pub returns : goal.returns
returns c =
    running-end c.loop-k.invariant.7 c.loop-k-test.false c.loop-k.invariant.6 _ c.if-tests-ne0.false c.if-results-ne1.false

pub bounds-stack-64 : goal.bounds-stack-64
bounds-stack-64 c =
    omega (arith, c.loop-k.invariant.5)
