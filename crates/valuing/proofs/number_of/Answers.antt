use mathlib.Core.Path.{refl}
use native.Mathlib.Omega.{arith}
use Rattle.valuing.specs.WalkLaws.{topping-room, prepared}
use Rattle.valuing.proofs.number_of.Goals as goal

pub tops-requires : goal.tops-requires
tops-requires c =
    topping-room _ _ _ c.requires.in_state.listed c.requires.most_rows_in_bounds

pub climb_rows-best-requires-clause-prepared : goal.climb_rows-best-requires-clause-prepared
climb_rows-best-requires-clause-prepared c =
    prepared _ _ _ _ _ _ _ c.requires.in_state.listed c.requires.in_state.lent (omega (arith, c.tops.auto.high, c.requires.most_rows_in_bounds)) c.tops.ensures c.requires.indexed

pub climb_rows-best-requires-clause-objects_value : goal.climb_rows-best-requires-clause-objects_value
climb_rows-best-requires-clause-objects_value c =
    refl

pub climb_rows-best-requires-clause-plain_value : goal.climb_rows-best-requires-clause-plain_value
climb_rows-best-requires-clause-plain_value c =
    c.requires.in_state.is-plain
