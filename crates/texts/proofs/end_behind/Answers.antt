use Rattle.texts.proofs.MoveLaws.{behind-full, behind-end}
use Rattle.texts.proofs.end_behind.Goals as goal

pub returns-then-r : goal.returns-then-r
returns-then-r c =
    λ w t l. behind-full c.args.r c.if-r.true c.requires.within w t

pub returns : goal.returns
returns c =
    behind-end c.args.r c.if-r.false c.end.ensures

pub overflow_sub-long : goal.overflow_sub-long
overflow_sub-long c =
    c.requires.inside

pub end-requires-clause-end_in_bounds : goal.end-requires-clause-end_in_bounds
end-requires-clause-end_in_bounds c =
    c.requires.within

pub end-requires-clause-lines_lt_most_lines : goal.end-requires-clause-lines_lt_most_lines
end-requires-clause-lines_lt_most_lines c =
    c.requires.lines
