use Rattle.c_library.proofs.SessionLaws.{room-is, open-left, open_done}
use lib.ListN.{length}
use Rattle.std.proofs.lemmas.Bool.{not_from_false}
use Rattle.std.proofs.lemmas.Bool.{not_from_true}
use Rattle.c_library.proofs.yindolve_open.Goals as goal

pub returns-then-not-has_room : goal.returns-then-not-has_room
returns-then-not-has_room c =
    open-left c.args.numbers.now c.args.arities.now c.args.state.now c.has_room.ensures (not_from_false _ c.if-not-has_room.true) c.number.ensures

pub open-n-requires : goal.open-n-requires
open-n-requires c =
    let r = room-is (length c.args.numbers.now) (length c.args.arities.now) (length c.args.state.now) c.has_room.ensures (not_from_true _ c.if-not-has_room.false) in
    record { arities_len = r.arities; state_words_in_bounds = r.state }

pub store-requires : goal.store-requires
store-requires c =
    (room-is (length c.args.numbers.now) (length c.args.arities.now) (length c.args.state.now) c.has_room.ensures (not_from_true _ c.if-not-has_room.false)).numbers

pub returns : goal.returns
returns c =
    open_done c.args.numbers.now c.args.arities.now c.args.state.now c.has_room.ensures (not_from_true _ c.if-not-has_room.false)
    c.open-n.ensures c.store.ensures
