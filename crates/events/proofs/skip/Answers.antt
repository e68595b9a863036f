use native.Mathlib.Omega.{arith}
use mathlib.Core.Path.{sym, ◌∙◌}
use Rattle.words.specs.ByteLaws.{inside}
use Rattle.events.proofs.skip.Goals as goal

pub overflow_add-result : goal.overflow_add-result
overflow_add-result c =
    omega (arith, inside c.args.s.now _ 32 (sym c.byte_at.ensures ∙ c.if-byte_at-eq32.true) (omega arith))
