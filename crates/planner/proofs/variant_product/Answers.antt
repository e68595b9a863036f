use Rattle.steps.specs.GivenLaws.{result-few, result-long}
use Rattle.planner.proofs.VariantLaws.{task-fresh, task-weight, product-stops, product-stops-2, product-operands, product-given}
use lib.Dec.{lit≤}
use mathlib.Core.Path.{◌∙◌}
use borrow.Author.Rules.{rules}
use Rattle.planner.proofs.variant_product.Goals as goal

pub regress_variant-a-requires : goal.regress_variant-a-requires
regress_variant-a-requires c =
    task-fresh c.requires.variant_task 3072 (lit≤ tt)

pub returns-in_default : goal.returns-in_default
returns-in_default c =
    product-stops c.requires.variant_task _ c.regress_variant-a.ensures c.in_default.is

pub weigh-b-requires : goal.weigh-b-requires
weigh-b-requires c =
    task-weight c.requires.variant_task 3072 _ (lit≤ tt) c.requires.g_le_highest_value c.regress_variant-a.auto.work

pub returns-in_default-b : goal.returns-in_default-b
returns-in_default-b c =
    product-stops-2 c.requires.variant_task _ c.regress_variant-a.ensures c.in-Ok.is c.weigh-b.ensures c.in_default-b.is

pub overflow_mul-regressed : goal.overflow_mul-regressed
overflow_mul-regressed c =
    let p = result-few (c.regress_variant-a.ensures.result _ c.in-Ok.is) in search rules

pub slice_bounds-regressed-end : goal.slice_bounds-regressed-end
slice_bounds-regressed-end c =
    let p = result-few (c.regress_variant-a.ensures.result _ c.in-Ok.is) in search rules

pub slice_bounds-shared-end : goal.slice_bounds-shared-end
slice_bounds-shared-end c =
    result-long (c.regress_variant-a.ensures.result _ c.in-Ok.is)

pub overflow_mul-weighted : goal.overflow_mul-weighted
overflow_mul-weighted c =
    let p = result-few (c.weigh-b.ensures.result _ c.in-Ok-b.is) in search rules

pub slice_bounds-weighted-end : goal.slice_bounds-weighted-end
slice_bounds-weighted-end c =
    let p = result-few (c.weigh-b.ensures.result _ c.in-Ok-b.is) in search rules

pub slice_bounds-shared-end-2 : goal.slice_bounds-shared-end-2
slice_bounds-shared-end-2 c =
    result-long (c.weigh-b.ensures.result _ c.in-Ok-b.is)

pub shared-requires : goal.shared-requires
shared-requires c =
    product-operands c.requires.variant_task _ c.regress_variant-a.ensures c.in-Ok.is c.weigh-b.ensures c.in-Ok-b.is
    (c.weigh-b.auto.work ∙ c.regress_variant-a.auto.work)

pub returns : goal.returns
returns c =
    product-given c.requires.variant_task _ c.regress_variant-a.ensures c.in-Ok.is c.weigh-b.ensures c.in-Ok-b.is c.shared.ensures
