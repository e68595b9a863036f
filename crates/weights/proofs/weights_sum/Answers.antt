use Rattle.weights.proofs.SumLaws.{summing_start, summing-task, summing-stops, summing_on, summing-end}
use mathlib.Core.Path.{refl, ◌∙◌}
use Rattle.std.proofs.lemmas.Result.{err_from_is_err_and}
use Rattle.weights.proofs.weights_sum.Goals as goal

pub begin-n-requires : goal.begin-n-requires
begin-n-requires c =
    c.requires.out-room

pub loop-v-init : goal.loop-v-init
loop-v-init c =
    (refl, refl, summing_start c.requires c.begin-n.ensures)

pub add_weight-requires : goal.add_weight-requires
add_weight-requires c =
    summing-task c.requires c.loop-v.invariant.2 c.loop-v-test.true (c.loop-v.invariant.0 ∙ c.begin-n.auto.out)
    c.loop-v.invariant.1

pub returns-in_err-n : goal.returns-in_err-n
returns-in_err-n c =
    let p = err_from_is_err_and c.from_residual.result c.from_residual.ensures.1 in
    rw (p.1, p.2, ← c.in_err-n.was) (summing-stops c.requires c.loop-v.invariant.2 c.loop-v-test.true c.add_weight.ensures c.in_err-n.was)

pub loop-v-preserved : goal.loop-v-preserved
loop-v-preserved c = (
  c.add_weight.auto.sum ∙ c.loop-v.invariant.0,
  c.add_weight.auto.work ∙ c.loop-v.invariant.1,
  summing_on c.requires c.loop-v.invariant.2 c.loop-v-test.true c.add_weight.ensures c.in_ok-n.was,
)

pub returns : goal.returns
returns c =
    summing-end c.requires c.loop-v.invariant.2 c.loop-v-test.false
