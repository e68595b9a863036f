use native.Mathlib.Omega.{arith}
use Rattle.events.proofs.FrontCode.{next-front, next-room}
use Rattle.events.proofs.next_event.Goals as goal

pub overflow_add-result : goal.overflow_add-result
overflow_add-result c =
    omega (arith, next-room c.args.s.now c.args.i c.front-seen.result c.requires c.front-seen.ensures, c.well_formed)

pub returns : goal.returns
returns c =
    search next-front
