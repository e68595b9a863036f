use native.Mathlib.Omega.{arith}
use Rattle.weights.proofs.ActionLaws.{action-stops, action-few, action-inside, action-long, action-listed, action-judged}
use Rattle.std.proofs.lemmas.Result.{err_from_is_err_and}
use Rattle.weights.proofs.weigh_action.Goals as goal

pub overflow_mul-sum : goal.overflow_mul-sum
overflow_mul-sum c =
    omega (arith, action-few c.requires 0 c.weights_sum.ensures c.in_ok-n.was)

pub slice_bounds-sum-end : goal.slice_bounds-sum-end
slice_bounds-sum-end c =
    omega (
      arith,
      action-few c.requires 0 c.weights_sum.ensures c.in_ok-n.was,
      action-inside c.requires 0 c.weights_sum.ensures c.in_ok-n.was,
    )

pub slice_bounds-leads_to-end : goal.slice_bounds-leads_to-end
slice_bounds-leads_to-end c =
    action-long c.requires 0 c.weights_sum.ensures c.in_ok-n.was

pub leads_to-requires : goal.leads_to-requires
leads_to-requires c =
    action-listed c.requires 0 c.weights_sum.ensures c.in_ok-n.was

pub returns : goal.returns
returns c =
    action-judged c.requires _ c.weights_sum.ensures c.in_ok-n.was c.leads_to.ensures c.judge.ensures

pub returns-in_err-n : goal.returns-in_err-n
returns-in_err-n c =
    let p = err_from_is_err_and c.from_residual.result c.from_residual.ensures.1 in
    rw (p.1, p.2) (action-stops c.requires _ c.weights_sum.ensures c.in_err-n.was)
