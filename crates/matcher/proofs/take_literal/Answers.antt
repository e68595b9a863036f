use mathlib.Core.Path.{refl}
use Rattle.matcher.proofs.OrderLaws.{swap-taken}
use Rattle.matcher.proofs.take_literal.Goals as goal

pub returns : goal.returns
returns c =
    swap-taken c.requires refl c.mark_places.ensures
