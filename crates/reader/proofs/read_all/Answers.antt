use mathlib.Core.Path.{ap, ◌∙◌}
use Rattle.std.specs.Prelude.{Err}
use Rattle.std.proofs.lemmas.Result.{err_from_is_err_and}
use Rattle.reader.proofs.WordCode.{loop-start, loop-end, loop-room, loop-refused, loop-shrinks, loop-more, loop-over}
use Rattle.reader.proofs.read_all.Goals as goal

pub loop-place-init : goal.loop-place-init
loop-place-init c =
    search loop-start

pub returns-then-is_end : goal.returns-then-is_end
returns-then-is_end c =
    loop-end c.loop-place.invariant c.next_event-next.ensures c.is_end.ensures
    c.requires c.if-is_end.true c.finish.ensures

pub meet_word-known-requires : goal.meet_word-known-requires
meet_word-known-requires c =
    c.loop-place.invariant.table

pub read_word-requires-clause-tables : goal.read_word-requires-clause-tables
read_word-requires-clause-tables c =
    c.requires.tables

pub read_word-requires-clause-variables : goal.read_word-requires-clause-variables
read_word-requires-clause-variables c =
    c.meet_word-known.ensures.table

pub read_word-requires-clause-room : goal.read_word-requires-clause-room
read_word-requires-clause-room c =
    loop-room c.loop-place.invariant c.next_event-next.ensures c.is_end.ensures c.requires c.loop-place-test.true

pub returns-in_err-pass : goal.returns-in_err-pass
returns-in_err-pass c =
    let p = err_from_is_err_and c.from_residual.result c.from_residual.ensures.1 in
    loop-refused c.loop-place.invariant c.next_event-next.ensures c.is_end.ensures c.if-is_end.false
    c.meet_word-known.ensures c.read_word.ensures c.in_err-pass.was (p.1 ∙ ap Err p.2)

pub loop-place-smaller : goal.loop-place-smaller
loop-place-smaller c =
    loop-shrinks c.loop-place.invariant c.next_event-next.ensures c.is_end.ensures c.if-is_end.false

pub loop-place-preserved : goal.loop-place-preserved
loop-place-preserved c =
    loop-more c.loop-place.invariant c.next_event-next.ensures c.is_end.ensures c.if-is_end.false
    c.meet_word-known.ensures c.read_word.ensures c.in_ok-pass.was c.meet_word-known.auto.variables c.read_word.auto.operations

pub returns : goal.returns
returns c =
    loop-over c.loop-place.invariant c.requires c.loop-place-test.false c.finish-2.ensures
