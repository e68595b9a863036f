use Rattle.reader.proofs.FillCode.{fill-room, fill_is}
use native.Mathlib.Omega.{arith}
use Rattle.reader.proofs.fill.Goals as goal

pub overflow_add-packed : goal.overflow_add-packed
overflow_add-packed c =
    omega (arith, fill-room _ _ _ c.requires)

pub returns : goal.returns
returns c =
    fill_is _ _ _ c.requires
