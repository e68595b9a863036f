use native.Mathlib.Omega.{arith}
use Rattle.desk_lines.proofs.FindLaws.{fewer, before-low, variants-room, variant_found}
use Rattle.desk_lines.proofs.find_variant.Goals as goal

pub variants_before-before-requires : goal.variants_before-before-requires
variants_before-before-requires c =
    search fewer

pub overflow_mul-before : goal.overflow_mul-before
overflow_mul-before c =
    omega (arith, before-low c.requires.findable c.requires.a_lt_actions c.variants_before-before.ensures)

pub overflow_add-before : goal.overflow_add-before
overflow_add-before c =
    omega (arith, before-low c.requires.findable c.requires.a_lt_actions c.variants_before-before.ensures)

pub find-requires : goal.find-requires
find-requires c =
    search variants-room

pub returns : goal.returns
returns c =
    search variant_found
