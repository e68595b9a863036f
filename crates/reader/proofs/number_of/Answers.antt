use Rattle.reader.proofs.NumberCode.{middle-room, end-room, name-taken, name-short, key-number}
use Rattle.reader.proofs.number_of.Goals as goal

pub spell-end-requires : goal.spell-end-requires
spell-end-requires c =
    middle-room c.args.key c.spell-middle.ensures c.spell-middle.auto.out

pub slice_bounds-bytes-end : goal.slice_bounds-bytes-end
slice_bounds-bytes-end c =
    end-room c.args.key c.spell-middle.ensures c.spell-middle.auto.out c.spell-end.ensures c.spell-end.auto.out

pub slice_bounds-name_number-end : goal.slice_bounds-name_number-end
slice_bounds-name_number-end c =
    name-taken c.args.key c.spell-middle.ensures c.spell-middle.auto.out c.spell-end.ensures c.spell-end.auto.out

pub name_number-requires : goal.name_number-requires
name_number-requires c =
    name-short c.args.key c.spell-middle.ensures c.spell-middle.auto.out c.spell-end.ensures c.spell-end.auto.out

pub returns : goal.returns
returns c =
    key-number c.args.key c.spell-middle.ensures c.spell-middle.auto.out c.spell-end.ensures c.spell-end.auto.out c.name_number.ensures
