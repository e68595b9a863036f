use native.Mathlib.Omega.{arith}
use Rattle.matcher.proofs.SomeWayLaws.{predicate-small}
use Rattle.matcher.proofs.kind.Goals as goal

pub overflow_mul-result : goal.overflow_mul-result
overflow_mul-result c =
    omega (arith, predicate-small _ c.predicate.ensures)

pub overflow_add-result : goal.overflow_add-result
overflow_add-result c =
    omega (arith, predicate-small _ c.predicate.ensures)
