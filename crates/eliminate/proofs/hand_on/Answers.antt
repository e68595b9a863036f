use native.Mathlib.Omega.{arith}
use lib.ListN.{length-set}
use Rattle.eliminate.proofs.HandLaws.{hand-leaf, hand-labelled, hand-high-in, hand-low-in, hand-done}
use Rattle.eliminate.proofs.hand_on.Goals as goal

pub returns-then-l : goal.returns-then-l
returns-then-l c =
    hand-leaf c.requires c.if-l.true

pub variables-requires : goal.variables-requires
variables-requires c =
    hand-labelled c.requires c.if-l.false

pub offset_bounds-above-high : goal.offset_bounds-above-high
offset_bounds-above-high c =
    omega (arith, hand-high-in c.requires c.if-l.false)

pub bounds-above-high : goal.bounds-above-high
bounds-above-high c =
    hand-high-in c.requires c.if-l.false

pub offset_bounds-above-high-2 : goal.offset_bounds-above-high-2
offset_bounds-above-high-2 c =
    omega (arith, hand-high-in c.requires c.if-l.false)

pub bounds-above-high-2 : goal.bounds-above-high-2
bounds-above-high-2 c =
    hand-high-in c.requires c.if-l.false

pub offset_bounds-above-low : goal.offset_bounds-above-low
offset_bounds-above-low c =
    omega (arith, hand-low-in c.requires c.if-l.false)

pub bounds-above-low : goal.bounds-above-low
bounds-above-low c =
    simp length-set (hand-low-in c.requires c.if-l.false)

pub offset_bounds-above-low-2 : goal.offset_bounds-above-low-2
offset_bounds-above-low-2 c =
    omega (arith, hand-low-in c.requires c.if-l.false)

pub bounds-above-low-2 : goal.bounds-above-low-2
bounds-above-low-2 c =
    simp length-set (hand-low-in c.requires c.if-l.false)

pub returns : goal.returns
returns c =
    hand-done c.requires c.if-l.false c.variables.result c.variables.ensures
