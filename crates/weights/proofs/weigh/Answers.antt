use Rattle.weights.proofs.ActionLaws.{weighing-start, weighing-task, weighing-stops, weighing-on, weighing-end}
use mathlib.Core.Path.{refl, ◌∙◌}
use Rattle.std.proofs.lemmas.Result.{err_from_is_err_and}
use Rattle.weights.proofs.weigh.Goals as goal

pub loop-a-init : goal.loop-a-init
loop-a-init c =
    (refl, weighing-start c.requires)

pub weigh_action-requires : goal.weigh_action-requires
weigh_action-requires c =
    weighing-task c.requires c.loop-a.invariant.1 c.loop-a-test.true c.loop-a.invariant.0

pub returns-in_err-weigh_action : goal.returns-in_err-weigh_action
returns-in_err-weigh_action c =
    let p = err_from_is_err_and c.from_residual.result c.from_residual.ensures.1 in
    rw (p.1, p.2, ← c.in_err-weigh_action.was) (weighing-stops c.requires c.loop-a.invariant.1 c.loop-a-test.true c.weigh_action.ensures c.in_err-weigh_action.was)

pub loop-a-preserved : goal.loop-a-preserved
loop-a-preserved c = (
  c.weigh_action.auto.work ∙ c.loop-a.invariant.0,
  weighing-on c.requires c.loop-a.invariant.1 c.loop-a-test.true c.weigh_action.ensures c.in_ok-weigh_action.was,
)

pub returns : goal.returns
returns c =
    weighing-end c.requires c.loop-a.invariant.1 c.loop-a-test.false
