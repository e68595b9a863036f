use Rattle.c_library.proofs.SessionLaws.{open-rooms, open-numbers, open_plain, open_none, open-rest}
use Rattle.memory.specs.Memory.{memory_of}
use native.Mathlib.Omega.{arith}
use Rattle.std.proofs.lemmas.Bool.{not_from_false}
use Rattle.std.proofs.lemmas.Bool.{not_from_true}
use Rattle.c_library.proofs.is_open.Goals as goal

pub returns-then-not-has_rooms : goal.returns-then-not-has_rooms
returns-then-not-has_rooms c =
    open-rooms c.args.numbers.now (memory_of c.args.names.now c.args.arities.now c.args.listings.now c.args.table.now c.args.state.now c.args.value.now) c.args.more
    c.has_rooms.ensures (not_from_false _ c.if-not-has_rooms.true)

pub is_plain-requires : goal.is_plain-requires
is_plain-requires c =
    open-numbers c.args.numbers.now (memory_of c.args.names.now c.args.arities.now c.args.listings.now c.args.table.now c.args.state.now c.args.value.now) c.args.more
    c.has_rooms.ensures (not_from_true _ c.if-not-has_rooms.false)

pub returns-then-not-is_plain : goal.returns-then-not-is_plain
returns-then-not-is_plain c =
    open_plain c.args.numbers.now (memory_of c.args.names.now c.args.arities.now c.args.listings.now c.args.table.now c.args.state.now c.args.value.now) c.args.more
    c.has_rooms.ensures (not_from_true _ c.if-not-has_rooms.false) c.is_plain.ensures (not_from_false _ c.if-not-is_plain.true)

pub load-n-requires : goal.load-n-requires
load-n-requires c =
    open-numbers c.args.numbers.now (memory_of c.args.names.now c.args.arities.now c.args.listings.now c.args.table.now c.args.state.now c.args.value.now) c.args.more
    c.has_rooms.ensures (not_from_true _ c.if-not-has_rooms.false)

pub returns-then-not-is_session : goal.returns-then-not-is_session
returns-then-not-is_session c =
    open_none c.args.numbers.now (memory_of c.args.names.now c.args.arities.now c.args.listings.now c.args.table.now c.args.state.now c.args.value.now) c.args.more
    c.has_rooms.ensures (not_from_true _ c.if-not-has_rooms.false)
    c.is_plain.ensures (not_from_true _ c.if-not-is_plain.false)
    c.load-n.ensures c.is_session.ensures (not_from_false _ c.if-not-is_session.true)

pub lines_of-requires : goal.lines_of-requires
lines_of-requires c =
    open-numbers c.args.numbers.now (memory_of c.args.names.now c.args.arities.now c.args.listings.now c.args.table.now c.args.state.now c.args.value.now) c.args.more
    c.has_rooms.ensures (not_from_true _ c.if-not-has_rooms.false)

pub overflow_sub-result : goal.overflow_sub-result
overflow_sub-result c =
    omega arith

pub returns : goal.returns
returns c =
    open-rest c.args.numbers.now (memory_of c.args.names.now c.args.arities.now c.args.listings.now c.args.table.now c.args.state.now c.args.value.now) c.args.more
    c.has_rooms.ensures (not_from_true _ c.if-not-has_rooms.false)
    c.is_plain.ensures (not_from_true _ c.if-not-is_plain.false)
    c.load-n.ensures c.is_session.ensures (not_from_true _ c.if-not-is_session.false) (omega arith) c.lines_of.ensures
