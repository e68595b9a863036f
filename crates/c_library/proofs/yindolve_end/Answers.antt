use Rattle.c_library.proofs.SessionLaws.{close-none, close-small, close-room, close-done, close_never}
use native.Mathlib.Omega.{arith}
use Rattle.std.proofs.lemmas.Bool.{not_from_false}
use Rattle.std.proofs.lemmas.Bool.{not_from_true}
use Rattle.c_library.proofs.yindolve_end.Goals as goal

pub returns-then-not-can_close : goal.returns-then-not-can_close
returns-then-not-can_close c =
    close-none c.args.numbers.now c.args.answer.now c.can_close.ensures (not_from_false _ c.if-not-can_close.true) c.number.ensures

pub returns-then-answer-lt-MOST_BYTES : goal.returns-then-answer-lt-MOST_BYTES
returns-then-answer-lt-MOST_BYTES c =
    close-small c.args.numbers.now c.args.answer.now c.can_close.ensures (not_from_true _ c.if-not-can_close.false) c.if-answer-lt-MOST_BYTES.true c.number-then-answer-lt-MOST_BYTES.ensures

pub load-requires : goal.load-requires
load-requires c =
    close-room c.args.numbers.now c.can_close.ensures (not_from_true _ c.if-not-can_close.false)

pub met_of-requires : goal.met_of-requires
met_of-requires c =
    close-room c.args.numbers.now c.can_close.ensures (not_from_true _ c.if-not-can_close.false)

pub end-requires-clause-end_in_bounds : goal.end-requires-clause-end_in_bounds
end-requires-clause-end_in_bounds c =
    omega arith

pub end-requires-clause-lines_lt_most_lines : goal.end-requires-clause-lines_lt_most_lines
end-requires-clause-lines_lt_most_lines c =
    omega arith

pub returns-in-Done : goal.returns-in-Done
returns-in-Done c =
    close-done c.args.numbers.now c.args.answer.now c.can_close.ensures (not_from_true _ c.if-not-can_close.false) c.if-answer-lt-MOST_BYTES.false c.load.ensures
    c.met_of.ensures c.end.ensures c.in-Done.is

pub returns-in-Full : goal.returns-in-Full
returns-in-Full c =
    close_never c.args.numbers.now c.args.answer.now c.can_close.ensures (not_from_true _ c.if-not-can_close.false) c.if-answer-lt-MOST_BYTES.false c.load.ensures
    c.met_of.ensures c.end.ensures c.in-Full.is
