use Rattle.store.proofs.LoadLaws.{carry-high-small, carry-low-small}
use native.Mathlib.Omega.{arith}
use Rattle.store.proofs.LoadLaws.{carry-branch, carry-high, carry-leaf, carry-low, carry-movable}
use Rattle.store.proofs.carry.Goals as goal

pub returns-then-l : goal.returns-then-l
returns-then-l c =
    search carry-leaf

pub offset_bounds-numbers-words : goal.offset_bounds-numbers-words
offset_bounds-numbers-words c =
    omega (arith, carry-high-small c.requires c.if-l.false)

pub bounds-numbers-words : goal.bounds-numbers-words
bounds-numbers-words c =
    search carry-high

pub offset_bounds-numbers-words-2 : goal.offset_bounds-numbers-words-2
offset_bounds-numbers-words-2 c =
    omega (arith, carry-low-small c.requires c.if-l.false)

pub bounds-numbers-words-2 : goal.bounds-numbers-words-2
bounds-numbers-words-2 c =
    search carry-low

pub renamed-requires : goal.renamed-requires
renamed-requires c =
    search carry-movable

pub returns : goal.returns
returns c =
    search carry-branch
