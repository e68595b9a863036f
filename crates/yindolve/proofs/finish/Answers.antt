use native.Mathlib.Omega.{arith}
use Rattle.yindolve.proofs.FinishLaws.{finish-other, unread-not, ended-not, ended_is, never-full, done-room, done-taken, finish-done}
use Rattle.std.proofs.lemmas.Bool.{not_from_false}
use Rattle.std.proofs.lemmas.Bool.{not_from_true}
use Rattle.yindolve.proofs.finish.Goals as goal

pub returns-then-is_unread : goal.returns-then-is_unread
returns-then-is_unread c =
    finish-other c.args.t c.args.count c.args.p c.args.out.now (unread-not c.args.t c.is_unread.ensures c.if-is_unread.true)

pub returns-then-not-is_ended : goal.returns-then-not-is_ended
returns-then-not-is_ended c =
    finish-other c.args.t c.args.count c.args.p c.args.out.now (ended-not c.args.t c.is_ended.ensures (not_from_false _ c.if-not-is_ended.true))

pub returns-in_default : goal.returns-in_default
returns-in_default c =
    never-full c.args.p c.args.out.now c.requires.end_value c.requires.lines_lt_most_lines c.requires.most_bytes_in_bounds c.end.ensures c.in_default.is

pub slice_bounds-write-end : goal.slice_bounds-write-end
slice_bounds-write-end c =
    done-room c.args.p c.args.out.now c.requires.end_value c.requires.lines_lt_most_lines c.requires.most_bytes_in_bounds c.end.ensures c.in-Done.is c.end.auto.out

pub slice_bounds-write-end-2 : goal.slice_bounds-write-end-2
slice_bounds-write-end-2 c =
    omega (arith, done-taken c.args.p c.args.out.now c.requires.end_value c.requires.lines_lt_most_lines c.requires.most_bytes_in_bounds c.end.ensures c.in-Done.is c.end.auto.out)

pub returns : goal.returns
returns c =
    finish-done c.args.p c.args.out.now c.requires.end_value c.requires.lines_lt_most_lines c.requires.most_bytes_in_bounds c.end.ensures
    (ended_is c.args.t c.is_ended.ensures
    (not_from_true _ c.if-not-is_ended.false)) c.in-Done.is c.end.auto.out c.write.ensures
