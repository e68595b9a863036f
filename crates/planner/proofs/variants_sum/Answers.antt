use Rattle.planner.proofs.SumLaws.{summing_start, summing-task, summing-begins, summing-stops, summing_on, summing-end}
use mathlib.Core.Path.{refl, ◌∙◌}
use Rattle.planner.proofs.variants_sum.Goals as goal

pub begin-n-requires : goal.begin-n-requires
begin-n-requires c =
    c.requires.value_task.out-room

pub loop-v-init : goal.loop-v-init
loop-v-init c =
    (refl, refl, summing_start c.requires.action_task c.requires.value_task c.begin-n.ensures)

pub add_variant-r-requires-clause-variant_task : goal.add_variant-r-requires-clause-variant_task
add_variant-r-requires-clause-variant_task c =
    summing-task c.requires.action_task c.requires.value_task c.loop-v.invariant.2 c.loop-v-test.true
    (c.loop-v.invariant.0 ∙ c.begin-n.auto.out) c.loop-v.invariant.1

pub add_variant-r-requires-clause-g_le_highest_value : goal.add_variant-r-requires-clause-g_le_highest_value
add_variant-r-requires-clause-g_le_highest_value c =
    c.requires.value_task.few

pub add_variant-r-requires-clause-buffer_listing : goal.add_variant-r-requires-clause-buffer_listing
add_variant-r-requires-clause-buffer_listing c =
    summing-begins c.requires.action_task c.requires.value_task c.loop-v.invariant.2 c.loop-v-test.true

pub returns-in_default : goal.returns-in_default
returns-in_default c =
    summing-stops c.requires.action_task c.requires.value_task c.loop-v.invariant.2 c.loop-v-test.true c.add_variant-r.ensures c.in_default.is

pub loop-v-preserved : goal.loop-v-preserved
loop-v-preserved c = (
  c.add_variant-r.auto.sum ∙ c.loop-v.invariant.0,
  c.add_variant-r.auto.work ∙ c.loop-v.invariant.1,
  summing_on c.requires.action_task c.requires.value_task c.loop-v.invariant.2 c.loop-v-test.true c.add_variant-r.ensures c.in-Ok.is,
)

pub returns : goal.returns
returns c =
    summing-end c.requires.action_task c.requires.value_task c.loop-v.invariant.2 c.loop-v-test.false
