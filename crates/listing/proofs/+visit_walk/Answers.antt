use native.Mathlib.Omega.{arith}
use Rattle.listing.proofs.OrderLaws.{walk-old, walk-leaf, walk-leaf-off, walk-high-off, walk-branch, walk-branch-off, less-high, less-low, down-high, down-low}
use Rattle.listing.proofs.+visit_walk.Goals as goal

pub visit-returns-then-i-n : goal.visit-returns-then-i-n
visit-returns-then-i-n t c = walk-old c.if-i-n.true

pub walk-returns-then-i-n : goal.walk-returns-then-i-n
walk-returns-then-i-n t c = walk-leaf c.requires.n_le_i c.if-words-i.true c.if-i-n.true

pub walk-returns-then-words-i : goal.walk-returns-then-words-i
walk-returns-then-words-i t c = walk-leaf-off c.requires.n_le_i c.if-words-i.true c.if-i-n.false

pub walk-visit-a-requires : goal.walk-visit-a-requires
walk-visit-a-requires t c =
    (omega (arith, c.decreases, less-high c.requires.downward c.if-words-i.false), down-high c.requires.downward c.if-words-i.false)

pub walk-returns-then-a-eq0 : goal.walk-returns-then-a-eq0
walk-returns-then-a-eq0 t c =
    walk-high-off c.requires.downward c.if-words-i.false c.requires.n_le_i c.visit-a.ensures c.if-a-eq0.true

pub walk-visit-b-requires : goal.walk-visit-b-requires
walk-visit-b-requires t c =
    (omega (arith, c.decreases, less-low c.requires.downward c.if-words-i.false), down-low c.requires.downward c.if-words-i.false)

pub walk-returns-then-b-i : goal.walk-returns-then-b-i
walk-returns-then-b-i t c =
    walk-branch c.requires.downward c.if-words-i.false c.requires.n_le_i c.visit-a.ensures c.if-a-eq0.false c.visit-b.ensures c.if-b-i.true

pub walk-returns-else-b-i : goal.walk-returns-else-b-i
walk-returns-else-b-i t c =
    walk-branch-off c.requires.downward c.if-words-i.false c.requires.n_le_i c.visit-a.ensures c.if-a-eq0.false c.visit-b.ensures c.if-b-i.false
