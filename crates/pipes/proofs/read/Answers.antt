use Rattle.std.proofs.Common.{arith, length, ◌-◌}
use borrow.Rule.Slice.PartMut.{take_put}
use Rattle.pipes.specs.Tally.{Got}
use Rattle.pipes.proofs.read.Goals as goal

pub returns-in-Ok : goal.returns-in-Ok
returns-in-Ok c = record {
  got = Got.bytes c.in-Ok.n (omega arith) (omega (arith, c.in-Ok.ensures.bound.0)) (omega (arith, c.in-Ok.ensures.bound.0)) c.add_read.ensures;
  front = take_put c.args.from (length c.args.block.now - c.args.from) c.args.block.now c.read.new.buf (omega arith);
}
