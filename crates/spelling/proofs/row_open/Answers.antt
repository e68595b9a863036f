use native.Mathlib.Omega.{arith}
use Rattle.spelling.proofs.CountLaws.{open-leaf, open-high, open-low, open_more}
use Rattle.spelling.proofs.row_open.Goals as goal

pub returns-then-words-i : goal.returns-then-words-i
returns-then-words-i c =
    search open-leaf

pub offset_bounds-brackets-high : goal.offset_bounds-brackets-high
offset_bounds-brackets-high c =
    omega (arith, open-high c.requires.shown c.requires.i_bound c.if-words-i.false c.requires.open_counts)

pub bounds-brackets-high : goal.bounds-brackets-high
bounds-brackets-high c =
    search open-high

pub offset_bounds-brackets-low : goal.offset_bounds-brackets-low
offset_bounds-brackets-low c =
    omega (arith, open-low c.requires.shown c.requires.i_bound c.if-words-i.false c.requires.open_counts)

pub bounds-brackets-low : goal.bounds-brackets-low
bounds-brackets-low c =
    search open-low

pub returns : goal.returns
returns c =
    search open_more
