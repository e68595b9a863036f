use mathlib.Core.Path.{◌∙◌}
use native.Mathlib.Omega.{arith}
use Rattle.paths.proofs.RouteLaws.{count-leaf, high-room, low-room, sum-small, count-min}
use Rattle.paths.proofs.count_row.Goals as goal

pub returns-then-words-i : goal.returns-then-words-i
returns-then-words-i c =
    count-leaf c.requires.rows c.requires.i_lt_n c.if-words-i.true

pub offset_bounds-counts-words : goal.offset_bounds-counts-words
offset_bounds-counts-words c =
    omega (arith, high-room c.requires.rows c.requires.i_lt_n c.if-words-i.false c.requires.counted (omega arith))

pub bounds-counts-words : goal.bounds-counts-words
bounds-counts-words c =
    high-room c.requires.rows c.requires.i_lt_n c.if-words-i.false c.requires.counted (omega arith)

pub offset_bounds-counts-words-2 : goal.offset_bounds-counts-words-2
offset_bounds-counts-words-2 c =
    omega (arith, low-room c.requires.rows c.requires.i_lt_n c.if-words-i.false c.requires.counted (omega arith))

pub bounds-counts-words-2 : goal.bounds-counts-words-2
bounds-counts-words-2 c =
    low-room c.requires.rows c.requires.i_lt_n c.if-words-i.false c.requires.counted (omega arith)

pub overflow_add-a-2 : goal.overflow_add-a-2
overflow_add-a-2 c =
    omega (arith, sum-small c.requires.rows c.requires.i_lt_n c.if-words-i.false c.requires.counted (omega arith))

pub returns : goal.returns
returns c =
    c.min.ensures ∙ count-min c.requires.rows c.requires.i_lt_n c.if-words-i.false c.requires.counted (omega arith)
