use native.Mathlib.Omega.{arith}
use Rattle.valuing.proofs.ClimbLaws.{lifted-refused, lifted-old, lifted-new}
use Rattle.std.proofs.lemmas.Result.{err_from_is_err_and}
use Rattle.valuing.proofs.lifted.Goals as goal

pub returns-in_err-v : goal.returns-in_err-v
returns-in_err-v c =
    let p = err_from_is_err_and c.from_residual.result c.from_residual.ensures.1 in
    rw (p.1, p.2, ← c.in_err-v.was) (search (lifted-refused, c.in_err-v.was))

pub returns-then-v-best : goal.returns-then-v-best
returns-then-v-best c =
    search (lifted-old, c.in_ok-v.was)

pub overflow_add-result : goal.overflow_add-result
overflow_add-result c =
    omega (arith, c.requires.few _ c.in_ok-v.was)

pub returns : goal.returns
returns c =
    search (lifted-new, c.in_ok-v.was)
