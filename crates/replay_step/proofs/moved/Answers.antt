use mathlib.Core.Path.{◌≡◌, refl, ap, ◌∙◌}
use native.Mathlib.Omega.{arith}
use Rattle.std.specs.Prelude.{Option, None, Some, Result, Err}
use Rattle.std.specs.Option.{ok_or}
use Rattle.std.specs.Result.{result_ok}
use Rattle.std.proofs.lemmas.Result.{err_from_is_err_and}
use Rattle.refusal.specs.declared.Refusal.{Refusal}
use Rattle.replay_step.proofs.RewardLaws.{met-low, told-some, told_none, rows_few, rows_inside, rows_long, move-many, move-told, move-rewarding}
use Rattle.replay_step.proofs.moved.Goals as goal

-- where `ok_or` refuses, nothing is there
nothing-there : {T : Type 0} (o : Option T) {r : Result T Refusal} {e d : Refusal} → r ≡ ok_or o d → r ≡ Err e → (o ≡ None) × (e ≡ d)
nothing-there None p q = (refl, cc)
nothing-there (Some x) p q = cc

pub returns-in_err-rows : goal.returns-in_err-rows
returns-in_err-rows c =
    let gone = nothing-there c.next_facts.result c.ok_or.ensures.value c.in_err-rows.was in
    let p = err_from_is_err_and c.from_residual.result c.from_residual.ensures.1 in
    rw (p.1, p.2, gone.1) (move-many c.next_facts.ensures c.requires.moving.words c.next_facts.auto.out gone.0)

pub overflow_mul-rows : goal.overflow_mul-rows
overflow_mul-rows c =
    omega (arith, rows_few c.next_facts.ensures (c.ok_or.ensures.ok_part ∙ ap result_ok c.in_ok-rows.was))

pub slice_bounds-rewards_met-end : goal.slice_bounds-rewards_met-end
slice_bounds-rewards_met-end c =
    rows_inside c.next_facts.ensures c.requires.moving.words c.next_facts.auto.out (c.ok_or.ensures.ok_part ∙ ap result_ok c.in_ok-rows.was)

pub slice_bounds-rewards_met-end-2 : goal.slice_bounds-rewards_met-end-2
slice_bounds-rewards_met-end-2 c =
    rows_long c.next_facts.ensures c.requires.moving.words c.next_facts.auto.out (c.ok_or.ensures.ok_part ∙ ap result_ok c.in_ok-rows.was)

pub rewards_met-requires : goal.rewards_met-requires
rewards_met-requires c =
    move-rewarding c.requires.moving _ c.requires.words_value c.requires.indexed c.next_facts.ensures
    (c.ok_or.ensures.ok_part ∙ ap result_ok c.in_ok-rows.was)

pub returns-in_err-met : goal.returns-in_err-met
returns-in_err-met c =
    let p = err_from_is_err_and c.from_residual-in_err-met.result c.from_residual-in_err-met.ensures.1 in
    rw (p.1, p.2) (move-told c.next_facts.ensures c.requires.moving.words c.next_facts.auto.out (c.ok_or.ensures.ok_part ∙ ap result_ok c.in_ok-rows.was)
    c.rewards_met.ensures (told_none _ _ _ c.in_err-met.was))

pub tallied-requires : goal.tallied-requires
tallied-requires c =
    let some = c.ok_or.ensures.ok_part ∙ ap result_ok c.in_ok-rows.was in
    let low = met-low (move-rewarding c.requires.moving _ c.requires.words_value c.requires.indexed c.next_facts.ensures some) _ c.rewards_met.ensures in
    record {
      count_le_highest_value = c.requires.count_le_highest_value;
      total_le_highest_value = c.requires.total_le_highest_value;
      met_bound = low.few _ c.in_ok-met.was;
    }

pub returns : goal.returns
returns c =
    move-told c.next_facts.ensures c.requires.moving.words c.next_facts.auto.out (c.ok_or.ensures.ok_part ∙ ap result_ok c.in_ok-rows.was)
    c.rewards_met.ensures (told-some _ _ _ c.in_ok-met.was c.tallied.ensures)
