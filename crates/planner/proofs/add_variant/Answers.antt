use Rattle.steps.specs.GivenLaws.{result-few, result-long}
use Rattle.planner.proofs.VariantLaws.{task-fresh, added_is}
use Rattle.planner.proofs.FollowLaws.{folded-refused, folded-able, folded-given}
use lib.Dec.{lit≤}
use Rattle.apply.specs.declared.Operation.TheVariants.{Sum}
use Rattle.apply.specs.declared.Names.TheVariants.{Apart}
use borrow.Author.Rules.{rules}
use Rattle.planner.proofs.add_variant.Goals as goal

pub variant_product-a-requires-clause-variant_task : goal.variant_product-a-requires-clause-variant_task
variant_product-a-requires-clause-variant_task c =
    task-fresh c.requires.variant_task 3072 (lit≤ tt)

pub variant_product-a-requires-clause-g_le_highest_value : goal.variant_product-a-requires-clause-g_le_highest_value
variant_product-a-requires-clause-g_le_highest_value c =
    c.requires.g_le_highest_value

pub returns-in_default : goal.returns-in_default
returns-in_default c =
    folded-refused c.requires.buffer_listing Sum Apart (added_is _ _ _ _ _) c.variant_product-a.ensures c.in_default.is

pub overflow_mul-product : goal.overflow_mul-product
overflow_mul-product c =
    let p = result-few (c.variant_product-a.ensures.result _ c.in-Ok.is) in search rules

pub slice_bounds-product-end : goal.slice_bounds-product-end
slice_bounds-product-end c =
    let p = result-few (c.variant_product-a.ensures.result _ c.in-Ok.is) in search rules

pub slice_bounds-add_apart-end : goal.slice_bounds-add_apart-end
slice_bounds-add_apart-end c =
    result-long (c.variant_product-a.ensures.result _ c.in-Ok.is)

pub add_apart-requires : goal.add_apart-requires
add_apart-requires c =
    folded-able c.requires.buffer_listing Sum Apart (added_is _ _ _ _ _) c.variant_product-a.ensures c.in-Ok.is c.requires.variant_task.out-room c.requires.variant_task.work-room
    c.variant_product-a.auto.work

pub returns : goal.returns
returns c =
    folded-given c.requires.buffer_listing Sum Apart (added_is _ _ _ _ _) c.variant_product-a.ensures c.in-Ok.is c.add_apart.ensures
