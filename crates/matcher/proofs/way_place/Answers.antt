use native.Mathlib.Omega.{arith}
use Rattle.matcher.proofs.WayLaws.{turn_below, place-straight, place-turned, place_twice, place-nothing}
use Rattle.matcher.proofs.way_place.Goals as goal

pub place-requires-in-Turned : goal.place-requires-in-Turned
place-requires-in-Turned c =
    omega (arith, turn_below _ c.requires, c.turned.ensures)

pub returns-in-Straight : goal.returns-in-Straight
returns-in-Straight c =
    place-straight _ c.in-Straight.is c.place.ensures

pub returns-in-Turned : goal.returns-in-Turned
returns-in-Turned c =
    place-turned _ c.in-Turned.is c.turned.ensures c.place-in-Turned.ensures

pub returns-in-Twice : goal.returns-in-Twice
returns-in-Twice c =
    place_twice _ c.in-Twice.is c.twice.ensures

pub returns-in-Nothing : goal.returns-in-Nothing
returns-in-Nothing c =
    place-nothing _ c.in-Nothing.is
