use native.Mathlib.Omega.{arith}
use Rattle.paths.proofs.RouteLaws.{over-next, side-leaf, side-below, here-room, side-true, side-false, leaf-label}
use Rattle.paths.proofs.side_of.Goals as goal

pub returns-then-words-i : goal.returns-then-words-i
returns-then-words-i c =
    side-leaf c.requires.rows c.requires.r_lt_n c.loop-i.invariant c.if-words-i.true

pub step_on-s-requires-clause-fact : goal.step_on-s-requires-clause-fact
step_on-s-requires-clause-fact c =
    leaf-label _ _ c.if-words-i.false

pub loop-i-preserved : goal.loop-i-preserved
loop-i-preserved c =
    over-next c.requires.rows c.requires.r_lt_n c.loop-i-test.true c.loop-i.invariant c.step_on-s.ensures

pub returns-then-i-r : goal.returns-then-i-r
returns-then-i-r c =
    side-below c.requires.rows c.requires.r_lt_n c.loop-i.invariant c.if-i-r.true

pub returns-then-words-i-2 : goal.returns-then-words-i-2
returns-then-words-i-2 c =
    side-leaf c.requires.rows c.requires.r_lt_n c.loop-i.invariant c.if-words-i-2.true

pub offset_bounds-counts-words : goal.offset_bounds-counts-words
offset_bounds-counts-words c =
    omega (arith, here-room c.requires.rows c.requires.counted c.requires.r_lt_n c.loop-i.invariant c.loop-i-test.false c.if-i-r.false c.if-words-i-2.false)

pub bounds-counts-words : goal.bounds-counts-words
bounds-counts-words c =
    here-room c.requires.rows c.requires.counted c.requires.r_lt_n c.loop-i.invariant c.loop-i-test.false c.if-i-r.false c.if-words-i-2.false

pub returns-then-m-counts : goal.returns-then-m-counts
returns-then-m-counts c =
    side-true c.requires.rows c.requires.counted c.requires.r_lt_n c.loop-i.invariant c.loop-i-test.false c.if-i-r.false c.if-words-i-2.false c.if-m-counts.true

pub returns-else-m-counts : goal.returns-else-m-counts
returns-else-m-counts c =
    side-false c.requires.rows c.requires.counted c.requires.r_lt_n c.loop-i.invariant c.loop-i-test.false c.if-i-r.false c.if-words-i-2.false c.if-m-counts.false
