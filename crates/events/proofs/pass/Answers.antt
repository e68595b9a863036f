use native.Mathlib.Omega.{arith}
use mathlib.Core.Path.{sym, ◌∙◌}
use Rattle.words.specs.ByteLaws.{inside}
use Rattle.events.proofs.pass.Goals as goal

pub overflow_add-i : goal.overflow_add-i
overflow_add-i c =
    omega (arith, inside c.args.s.now _ 41 (sym c.byte_at.ensures ∙ c.if-byte_at-eq41.true) (omega arith))
