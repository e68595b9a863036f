use native.Mathlib.Omega.{arith}
use Rattle.model_entry.proofs.TruthLaws.{last-few, truth-placed}
use Rattle.model_entry.proofs.truth_place.Goals as goal

pub overflow_mul-result-2 : goal.overflow_mul-result-2
overflow_mul-result-2 c =
    omega (arith, last-few c.requires, c.requires.declared, c.requires.spanned.few)

pub overflow_add-result-2 : goal.overflow_add-result-2
overflow_add-result-2 c =
    omega (arith, last-few c.requires, c.requires.declared, c.requires.spanned.few)

pub overflow_add-result-3 : goal.overflow_add-result-3
overflow_add-result-3 c =
    omega (arith, last-few c.requires, c.requires.declared, c.requires.spanned.few)

pub overflow_add-result-4 : goal.overflow_add-result-4
overflow_add-result-4 c =
    omega (arith, last-few c.requires, c.requires.declared, c.requires.spanned.few)

pub returns : goal.returns
returns c =
    search truth-placed
