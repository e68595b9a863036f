use Rattle.yindolve.proofs.HandLaws.{refill-read}
use Rattle.yindolve.proofs.refill.Goals as goal

pub returns : goal.returns
returns c =
    refill-read c.args.rest c.if-rest.false c.read-u.ensures c.last-more.ensures
