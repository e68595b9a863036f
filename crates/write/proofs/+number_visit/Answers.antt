use native.Mathlib.Omega.{arith}
use Rattle.write.proofs.NumberLaws.{less-high, less-low, down-high, down-low, number-old, leaf-placeable, number-leaf, branch-placeable, number-branch}
use Rattle.write.proofs.+number_visit.Goals as goal

pub number-place-requires : goal.number-place-requires
number-place-requires t c = leaf-placeable c.requires.downward c.requires.unnumbered

pub number-returns-then-space-i : goal.number-returns-then-space-i
number-returns-then-space-i t c = number-leaf c.requires.downward c.requires.unnumbered c.if-space-i.true c.place.ensures

pub number-visit-a-requires : goal.number-visit-a-requires
number-visit-a-requires t c = (
  omega (arith, c.decreases, less-high c.requires.downward c.if-space-i.false),
  (down-high c.requires.downward c.if-space-i.false, c.requires.unnumbered.rows),
)

pub number-visit-b-requires : goal.number-visit-b-requires
number-visit-b-requires t c = (
  omega (arith, c.decreases, less-low c.requires.downward c.if-space-i.false),
  (down-low c.requires.downward c.if-space-i.false, c.visit-a.ensures.rows),
)

pub number-place-requires-2 : goal.number-place-requires-2
number-place-requires-2 t c = branch-placeable c.requires.downward c.requires.unnumbered c.if-space-i.false c.visit-a.ensures c.visit-b.ensures

pub number-returns : goal.number-returns
number-returns t c = number-branch c.requires.downward c.requires.unnumbered c.if-space-i.false c.visit-a.ensures c.visit-b.ensures c.place-2.ensures

pub visit-returns-then-wide-ne0 : goal.visit-returns-then-wide-ne0
visit-returns-then-wide-ne0 t c = number-old c.requires.downward c.requires.marked c.wide.ensures c.if-wide-ne0.true
