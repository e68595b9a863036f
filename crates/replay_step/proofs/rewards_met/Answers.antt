use native.Mathlib.Omega.{arith}
use Rattle.replay_step.proofs.RewardLaws.{added-some, added_none, met-ready, met-stops, met-both}
use Rattle.std.proofs.lemmas.Result.{err_from_is_err_and}
use Rattle.replay_step.proofs.rewards_met.Goals as goal

pub returns-in_err-before : goal.returns-in_err-before
returns-in_err-before c =
    let p = err_from_is_err_and c.from_residual.result c.from_residual.ensures.1 in
    rw (p.1, p.2, ← c.in_err-before.was) (met-stops _ _ _ _ _ _ _ c.reward_before.ensures c.in_err-before.was)

pub returns-in_err-after : goal.returns-in_err-after
returns-in_err-after c =
    let p = err_from_is_err_and c.from_residual-in_err-after.result c.from_residual-in_err-after.ensures.1 in
    rw (p.1, p.2) (met-both _ _ _ _ _ _ _ c.reward_before.ensures c.in_ok-before.was c.value_listed.ensures (added_none _ c.in_err-after.was))

pub overflow_add-result : goal.overflow_add-result
overflow_add-result c =
    let a = met-ready c.requires _ c.reward_before.ensures c.in_ok-before.was c.value_listed.ensures in
    omega (arith, a.0, a.1.few _ c.in_ok-after.was)

pub returns : goal.returns
returns c =
    met-both _ _ _ _ _ _ _ c.reward_before.ensures c.in_ok-before.was c.value_listed.ensures (added-some _ c.in_ok-after.was)
