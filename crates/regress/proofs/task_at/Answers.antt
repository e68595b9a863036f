use Rattle.regress.proofs.RowsLaws.{read-leaf, read-branch, read-high, read_low}
use borrow.Author.Rules.{rules}
use Rattle.regress.proofs.task_at.Goals as goal

pub returns-then-l : goal.returns-then-l
returns-then-l c =
    read-leaf _ _ _ c.if-l.true

pub offset_bounds-numbers-t : goal.offset_bounds-numbers-t
offset_bounds-numbers-t c =
    let p = read-high c.requires c.if-l.false in search rules

pub bounds-numbers-t : goal.bounds-numbers-t
bounds-numbers-t c =
    read-high c.requires c.if-l.false

pub offset_bounds-numbers-f : goal.offset_bounds-numbers-f
offset_bounds-numbers-f c =
    let p = read_low c.requires c.if-l.false in search rules

pub bounds-numbers-f : goal.bounds-numbers-f
bounds-numbers-f c =
    read_low c.requires c.if-l.false

pub returns : goal.returns
returns c =
    read-branch _ _ _ c.if-l.false c.wide-high.ensures c.wide-low.ensures
