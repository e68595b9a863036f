use native.Mathlib.Omega.{arith}
use Rattle.texts.proofs.RunLaws.{end-full, end-few, end-there}
use Rattle.texts.proofs.next_end.Goals as goal

pub returns-then-r : goal.returns-then-r
returns-then-r c =
    end-full c.args.block.now c.args.r c.args.free c.args.room c.if-r.true

pub returns-then-room-r : goal.returns-then-room-r
returns-then-room-r c =
    end-few c.args.block.now c.args.r c.args.free c.args.room c.if-r.false c.requires c.if-room-r.true

pub returns : goal.returns
returns c =
    end-there c.args.block.now c.args.r c.args.free c.args.room c.if-r.false c.requires c.if-room-r.false c.line_end.ensures

pub overflow_sub-room : goal.overflow_sub-room
overflow_sub-room c =
    omega (arith, c.requires)
